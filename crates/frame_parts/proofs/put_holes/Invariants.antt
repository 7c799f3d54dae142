-- `put_holes` meets its contract. The invariant: the holes that are left are there and have room, and what is written with what is left to
-- write is all that was to be written. Assumes nothing.
use mathlib.Core.Path.{◌≡◌}
use Prim.Native.Nat.{◌+◌, ◌-◌, ◌≤◌}
use lib.ListN.{length}
use Rattle.rings.specs.LentRings.{most_rings}
use Rattle.frame_bytes.specs.Internal.{rings_from}
use Rattle.frame_parts.specs.Internal.{holes_vertices, lengths_of, RingsRoom}
use Rattle.frame_parts.proofs.Cutting.{Ahead}
use Rattle.frame_parts.proofs.put_holes.Given as goal

abbrev pub invariant-loop : goal.invariant-loop
invariant-loop l = RingsRoom l.frame l.at (l.holes - l.counter) (lengths_of l.ring l.a l.a_origins l.b l.b_origins) (length l.out) l.written
    × (l.written.rings + (l.holes - l.counter) ≤ most_rings)
    × Ahead (holes_vertices l.bounds (rings_from l.frame l.start l.holes)) l.initial.written l.initial.out (holes_vertices l.bounds (rings_from l.frame l.at (l.holes - l.counter))) l.written l.out
    × (length l.ring ≡ length l.initial.ring) × (length l.a ≡ length l.initial.a) × (length l.a_origins ≡ length l.initial.a_origins) × (length l.b ≡ length l.initial.b)
    × (length l.b_origins ≡ length l.initial.b_origins) × (length l.out ≡ length l.initial.out)
