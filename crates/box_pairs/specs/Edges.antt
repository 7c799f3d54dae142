-- The ring that the edges of the code, `edges::Edges`, are those of. Definitions only.
use Rattle.std.specs.Prelude.{List, ◌+◌}
use Rattle.tile.specs.declared.Coord.{Coord}
use Rattle.box_pairs.specs.declared.edges.Edges.{Edges}
use Rattle.box_pairs.specs.Internal.{front}

-- one coordinate more than edges
abbrev pub ring_of : Edges → List Coord
ring_of e = front e.ring.now (e.count + 1)
