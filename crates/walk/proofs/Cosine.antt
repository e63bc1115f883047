-- The cosine of the code, operation by operation. Assumes nothing.
use mathlib.Core.Path.{◌≡◌, ap, ◌∙◌}
use lib.Ieee.{Float, binary64, div, mul}
use Rattle.root.specs.Root.{sqrt_of}
use Rattle.vector.specs.Vector.{Vector, diff, dot, norm}
use Rattle.walk.specs.Walk.{clamp, cosine_to}

-- the cosine from its parts
pub cosine_to_lem : (incoming b c outgoing : Vector) (m d s q : Float) → outgoing ≡ diff c b → s ≡ dot outgoing outgoing → q ≡ sqrt_of binary64 s
    → d ≡ dot incoming outgoing → clamp (div binary64 d (mul binary64 m q)) ≡ cosine_to incoming m b c
unfolding cosine_to
cosine_to_lem incoming b c outgoing m d s q eo es eq ed =
    ap (λ (x : Float). clamp (div binary64 x (mul binary64 m q))) (ed ∙ ap (dot incoming) eo)
    ∙ ap (λ (x : Float). clamp (div binary64 (dot incoming (diff c b)) (mul binary64 m x))) (eq ∙ ap (sqrt_of binary64) es)
    ∙ ap (λ (v : Vector). clamp (div binary64 (dot incoming (diff c b)) (mul binary64 m (norm v)))) eo
