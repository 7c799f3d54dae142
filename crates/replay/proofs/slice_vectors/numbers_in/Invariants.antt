-- `numbers_in` meets its contract. The invariant: the sum so far has room, and with the lengths that are left it is the whole sum. Assumes
-- nothing.
use mathlib.Core.Path.{◌≡◌}
use Prim.Native.Nat.{◌+◌, ◌≤◌}
use lib.ListN.{drop}
use Rattle.rings.specs.LentRings as LentRings
use Rattle.replay.proofs.slice_vectors.numbers_in.Given as goal

abbrev pub invariant-loop-length : goal.invariant-loop-length
invariant-loop-length l = (l.sum ≤ 2048) × (l.sum + LentRings.sum (drop l.length-index l.lengths) ≡ LentRings.sum l.lengths)
