-- Two accepted cells with the same corners, face by face, are read alike, whatever their mid-side nodes hold. Assumes nothing.
use mathlib.Core.Path.{◌≡◌, refl, sym, ap, ◌∙◌}
use mathlib.Core.List.{List, [], ◌∷◌, ◌++◌, map, flatten, map-append}
use Prim.Native.Nat.{ℕ, ◌<◌}
use native.Mathlib.Omega.{arith}
use lib.Ieee.{Float}
use Rattle.std.proofs.lemmas.List.Elements.{All-head, All-tail}
use Rattle.std.proofs.Common.{Some}
use lib.ListN.{length, take, drop, length-map}
use lib.Seq.{take_at, drop_at}
use Rattle.rows.specs.Outcome.{found}
use Rattle.rows.proofs.Outcomes.{never_both}
use Rattle.cell.specs.Types.{space_corners, plane_corners}
use Rattle.cell.specs.Read.{corner, Polygon, Typed, untyped, typed, read_as, typed_in_space, typed_in_plane, numbered_in_space, numbered_in_plane}
use Rattle.cell.specs.Code.{Below}
use Rattle.cell.specs.Claims.{faces_as, Alike, FirstDecide, MidSidesFree}
use Rattle.cell.proofs.Inside.{among_corners}
use Rattle.cell.proofs.Polygon.{polygon_below}
use Rattle.cell.proofs.Answers.{passed}

sizes_differ : (n : ℕ) (l : List ℕ) → n ∷ l ≡ [] → ⊥
sizes_differ n l e = let z : ◌≡◌ {A = ℕ} 0 1 = cc in omega arith

-- ---- lists cut at the same sizes are equal where they are equal in a row

module _ {A B : Type 0} (g : A → B) (h : A → B) where
  regroup : (ls ms : List (List A)) → map length ls ≡ map length ms → map g (flatten ls) ≡ map h (flatten ms)
      → map (map g) ls ≡ map (map h) ms
  unfolding flatten
  regroup [] [] e q = refl
  regroup [] (m ∷ ms) e q = absurd (sizes_differ (length m) (map length ms) (sym e))
  regroup (l ∷ ls) [] e q = absurd (sizes_differ (length l) (map length ls) e)
  regroup (l ∷ ls) (m ∷ ms) e q =
      let n : length l ≡ length m = cc in
      let k : length (map h m) ≡ length (map g l) = length-map m h ∙ sym n ∙ sym (length-map l g) in
      let j : map g l ++ map g (flatten ls) ≡ map h m ++ map h (flatten ms)
      = sym (map-append g l (flatten ls)) ∙ q ∙ map-append h m (flatten ms) in
      let front : map g l ≡ map h m
      = sym (take_at (map g l) (map g (flatten ls)) (length (map g l)) refl) ∙ ap (take (length (map g l))) j
      ∙ take_at (map h m) (map h (flatten ms)) (length (map g l)) k in
      let rest : map g (flatten ls) ≡ map h (flatten ms)
      = sym (drop_at (map g l) (map g (flatten ls)) (length (map g l)) refl) ∙ ap (drop (length (map g l))) j
      ∙ drop_at (map h m) (map h (flatten ms)) (length (map g l)) k in
      let tail : map length ls ≡ map length ms = cc in
      ap (λ r. r ∷ map (map g) ls) front ∙ ap (λ r. map h m ∷ r) (regroup ls ms tail rest)

-- ---- the claims

read_alike : (w : ℕ) (t : Typed) (c c' : List ℕ) (xs xs' : List Float) (ps ps' : List Polygon) → read_as w t c xs ≡ found ps
    → read_as w t c' xs' ≡ found ps' → map length (faces_as t c) ≡ map length (faces_as t c')
    → map (corner w c xs) (flatten (faces_as t c)) ≡ map (corner w c' xs') (flatten (faces_as t c')) → read_as w t c xs ≡ read_as w t c' xs'
unfolding read_as
read_alike w untyped c c' xs xs' ps ps' r r' n z = absurd (never_both r)
read_alike w (typed m faces) c c' xs xs' ps ps' r r' n z =
    let a = (passed w m faces c xs ps r).are in
    let b = (passed w m faces c' xs' ps' r').are in
    r ∙ ap found (a ∙ regroup (corner w c xs) (corner w c' xs') (faces c) (faces c') n z ∙ sym b) ∙ sym r'

pub alike : (w : ℕ) (tells : ℕ → Typed) → Alike w tells
alike w tells k k' ps ps' r r' z =
    let e = ap (λ t. read_as w (tells t) k'.conn k'.coords) z.cell_type in
    read_alike w (tells k.cell_type) k.conn k'.conn k.coords k'.coords ps ps' r (e ∙ r') z.sizes z.coordinates ∙ e

pub alike_in_space : Alike 3 numbered_in_space
alike_in_space = alike 3 numbered_in_space

pub alike_in_plane : Alike 2 numbered_in_plane
alike_in_plane = alike 2 numbered_in_plane

same_below : (g h : ℕ → List Float) (n : ℕ) (ps : List ℕ) → Below n ps → ((p : ℕ) → p < n → g p ≡ h p) → map g ps ≡ map h ps
same_below g h n [] b e = refl
same_below g h n (p ∷ ps) b e =
    ap (λ r. r ∷ map g ps) (e p (All-head (λ p. p < n) p ps b)) ∙ ap (λ l. h p ∷ l) (same_below g h n ps (All-tail (λ p. p < n) p ps b) e)

-- where the faces are the same and stand among the first nodes, those decide
first_decide : (w : ℕ) (k : Typed) (corners : ℕ → ℕ) → ((c : List ℕ) → Below (corners (length c)) (flatten (faces_as k c)))
    → FirstDecide w k corners
first_decide w k corners b c c' xs xs' ps ps' r r' f z =
    read_alike w k c c' xs xs' ps ps' r r' (ap (map length) f)
    (same_below (corner w c xs) (corner w c' xs') (corners (length c)) (flatten (faces_as k c)) (b c) z
    ∙ ap (λ l. map (corner w c' xs') (flatten l)) f)

pub mid_sides_free : MidSidesFree
mid_sides_free =
    record {
      in_space = λ t. first_decide 3 (typed_in_space (Some t)) (space_corners t) (among_corners t);
      in_plane = λ t.
          first_decide 2 (typed_in_plane (Some t)) (plane_corners t)
          (λ c. polygon_below (plane_corners t (length c)) (plane_corners t (length c)) (omega arith));
    }
