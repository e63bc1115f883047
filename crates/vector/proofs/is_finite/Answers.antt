-- `vector::is_finite` meets its contract. Assumes nothing.
use Rattle.std.proofs.Common.{◌+◌, ◌&&◌, arith, ap, ◌∙◌, sym, drop}
use Rattle.std.proofs.lemmas.List.{at_drop_all}
use Rattle.vector.specs.Scaled.{finite}
use Rattle.vector.proofs.Power.{finite_step}
use Rattle.vector.proofs.is_finite.Goals as goal

pub returns-then-not-is_finite : goal.returns-then-not-is_finite
returns-then-not-is_finite g c =
    let w = c.well_formed in
    let t = c.loop-k-test.true in
    sym
    (c.loop-k.invariant ∙ finite_step c.args.v c.loop-k.k (omega arith)
    ∙ ap (λ b. b && finite (drop (c.loop-k.k + 1) c.args.v)) (sym c.is_finite.ensures.value ∙ c.if-not-is_finite.true))

pub loop-k-preserved : goal.loop-k-preserved
loop-k-preserved g c =
    let w = c.well_formed in
    let t = c.loop-k-test.true in
    c.loop-k.invariant ∙ finite_step c.args.v c.loop-k.k (omega arith)
    ∙ ap (λ b. b && finite (drop (c.loop-k.k + 1) c.args.v)) (sym c.is_finite.ensures.value ∙ c.if-not-is_finite.false)

pub returns : goal.returns
returns g c =
    let w = c.well_formed in
    let t = c.loop-k-test.false in
    sym (c.loop-k.invariant ∙ at_drop_all (λ l. finite l) c.args.v c.loop-k.k (omega arith))
