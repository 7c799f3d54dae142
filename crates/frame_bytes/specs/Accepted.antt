-- A frame and a part that were accepted, as they are read. Definitions only.
use Rattle.std.specs.Prelude.{List, drop}
use Rattle.tile.specs.declared.Coord.{Coord}
use Rattle.frame_bytes.specs.declared.accepted.AcceptedFrame.{AcceptedFrame}
use Rattle.frame_bytes.specs.declared.accepted.PartBytes.{PartBytes}
use Rattle.frame_bytes.specs.Frame.{Reading, Frame, read_frame, read_part}
use Rattle.frame_bytes.specs.Internal.{part_at}

abbrev pub frame_reading : AcceptedFrame → Reading Frame
frame_reading frame = read_frame frame.bytes.now

abbrev pub part_reading : PartBytes → Reading (List (List Coord))
part_reading part = read_part (drop part.at part.frame.now)

-- the rings of a part
abbrev pub rings_of : PartBytes → List (List Coord)
rings_of part = part_at part.frame.now part.at
