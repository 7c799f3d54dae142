-- `put_holes` meets its contract. The invariant: the holes that are left have room, and what is written with what is left to write is all
-- that was to be written, of the rings and of their origins. Assumes nothing.
use mathlib.Core.Path.{◌≡◌}
use mathlib.Core.List.{◌++◌}
use lib.ListN.{length, take}
use Rattle.rings.specs.Internal.{rings_of}
use Rattle.clip.specs.Polygon.{cut_holes}
use Rattle.clip.specs.Origins.{holes_origins}
use Rattle.polygon_rings.specs.WrittenRings.{origins_of}
use Rattle.polygon_rings.proofs.Holes.{Ahead, Rooms}
use Rattle.polygon_rings.proofs.put_holes.Given as goal

abbrev pub invariant-loop-ring : goal.invariant-loop-ring
invariant-loop-ring l = goal.iterator-loop-ring.can_next l.ring-iterator × goal.iterator-loop-ring.is_finite l.ring-iterator
    × Rooms (rings_of l.ring-iterator) (length l.scratch) (length l.origin_scratch) (length l.out) (length l.out_lengths)
    (length l.out_origins) l.placed
    × Ahead (cut_holes l.bounds (rings_of l.rings)) l.initial.placed l.initial.out l.initial.out_lengths
    (cut_holes l.bounds (rings_of l.ring-iterator)) l.placed l.out l.out_lengths
    × (take l.initial.placed.coordinates l.initial.out_origins ++ origins_of (holes_origins l.bounds (rings_of l.rings))
    ≡ take l.placed.coordinates l.out_origins ++ origins_of (holes_origins l.bounds (rings_of l.ring-iterator)))
    × (length l.scratch ≡ length l.initial.scratch) × (length l.origin_scratch ≡ length l.initial.origin_scratch) × (length l.out ≡ length l.initial.out)
    × (length l.out_lengths ≡ length l.initial.out_lengths) × (length l.out_origins ≡ length l.initial.out_origins)
