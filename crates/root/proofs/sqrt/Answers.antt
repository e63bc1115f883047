-- `root::sqrt` meets its contract. Assumes nothing.
use Rattle.std.proofs.Common.{◌≡◌, Bool, true, false, not, T, sym, refl, ap, ◌∙◌, subst}
use lib.Ieee.{Float, nan, inf, fin, binary64, is_nan, nan_bits, of_bits, to_bits}
use lib.Ieee.Bits.{of_bits-to_bits, nan_bits_is}
use Rattle.root.specs.Root.{sqrt_of}
use Rattle.root.proofs.sqrt.Goals as goal
use Rattle.root.proofs.sqrt.Goals.{Start}

same : (c : Start) → of_bits binary64 (to_bits binary64 c.args.x) ≡ c.args.x
same c = of_bits-to_bits binary64 c.args.x (subst T (sym c.well_formed.0.1) tt)

nan_root : (x : Float) → is_nan x ≡ true → x ≡ sqrt_of binary64 x
unfolding is_nan sqrt_of
nan_root nan e = refl
nan_root (inf s) e = cc
nan_root (fin s m k) e = cc

pub root_of_bits-requires : goal.root_of_bits-requires
root_of_bits-requires c =
    let x = c.args.x in
    let e : nan_bits binary64 (to_bits binary64 x) ≡ false =
    nan_bits_is binary64 (to_bits binary64 x) ∙ ap is_nan (same (goal.at.root_of_bits-requires c).Start) ∙ sym c.is_nan.ensures.value ∙ c.if-is_nan.false in
    subst (λ (t : Bool). T (not t)) (sym e) tt

pub returns-then-is_nan : goal.returns-then-is_nan
returns-then-is_nan c = nan_root c.args.x (sym c.is_nan.ensures.value ∙ c.if-is_nan.true)

pub returns-else-is_nan : goal.returns-else-is_nan
returns-else-is_nan c = c.root_of_bits.ensures ∙ ap (sqrt_of binary64) (same (goal.at.returns-else-is_nan c).Start)
