-- `to_hex` meets its contract. Assumes nothing.
use mathlib.Core.Path.{sym, subst}
use mathlib.Core.List.{List}
use Prim.Native.Nat.{ℕ, ◌-◌}
use Rattle.lines.proofs.Hexadecimal.{Hexed, hexed_start, hexed_step}
use Rattle.lines.proofs.digits.to_hex.Goals as goal

pub loop-k-init : goal.loop-k-init
loop-k-init c = hexed_start c.args.out.now c.args.count

pub loop-k-preserved : goal.loop-k-preserved
loop-k-preserved c = let l = c.loop-k in subst (λ (s : List ℕ). Hexed c.args.out.now
    c.args.count (l.k - 1) s)
    (sym c.put_hex.ensures) (hexed_step c.requires
    l.k c.loop-k-test.true l.invariant)
