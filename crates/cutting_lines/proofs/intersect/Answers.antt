-- `intersect` meets its contract: each arm knows its edge, and the crossing is within the error of the exact one. Assumes nothing.
use mathlib.Core.Path.{◌≡◌}
use borrow.Author.Rules.{rules}
use Rattle.tile.specs.declared.Coord.{Coord}
use Rattle.tile.specs.declared.TileBounds.{TileBounds}
use Rattle.tile.specs.declared.Edge.{Edge}
use Rattle.cutting_lines.specs.CuttingLines.{crossing}
use Rattle.cutting_lines.specs.CrossingError.{WithinError}
use Rattle.cutting_lines.proofs.CrossingLaws.{FittingBounds, FittingCoord, crossing_error_lem}
use Rattle.cutting_lines.proofs.intersect.Goals as goal

-- what is answered is the crossing, so it is within the error
told : (l : Edge) (b : TileBounds) (s e r : Coord) → r ≡ crossing l b s e → FittingBounds b → FittingCoord s → FittingCoord e
    → WithinError l b s e r
told l b s e r is fb fs fe = rw is (crossing_error_lem l b s e fb fs fe)

pub returns-in-Left-clause-crossing : goal.returns-in-Left-clause-crossing
unfolding crossing
returns-in-Left-clause-crossing c = rw (c.in-Left.is, c.interpolate-y.ensures)

pub returns-in-Left-clause-error : goal.returns-in-Left-clause-error
unfolding crossing
returns-in-Left-clause-error c =
    told c.args.edge c.args.bounds c.args.a c.args.b (record { x = c.args.bounds.lng_min; y = c.interpolate-y.result }) (rw (c.in-Left.is, c.interpolate-y.ensures))
    (search rules, search rules, search rules, search rules) (search rules, search rules) (search rules, search rules)

pub returns-in-Right-clause-crossing : goal.returns-in-Right-clause-crossing
unfolding crossing
returns-in-Right-clause-crossing c = rw (c.in-Right.is, c.interpolate-y-in-Right.ensures)

pub returns-in-Right-clause-error : goal.returns-in-Right-clause-error
unfolding crossing
returns-in-Right-clause-error c =
    told c.args.edge c.args.bounds c.args.a c.args.b (record { x = c.args.bounds.lng_max; y = c.interpolate-y-in-Right.result }) (rw (c.in-Right.is, c.interpolate-y-in-Right.ensures))
    (search rules, search rules, search rules, search rules) (search rules, search rules) (search rules, search rules)

pub returns-in-Bottom-clause-crossing : goal.returns-in-Bottom-clause-crossing
unfolding crossing
returns-in-Bottom-clause-crossing c = rw (c.in-Bottom.is, c.interpolate-x.ensures)

pub returns-in-Bottom-clause-error : goal.returns-in-Bottom-clause-error
unfolding crossing
returns-in-Bottom-clause-error c =
    told c.args.edge c.args.bounds c.args.a c.args.b (record { x = c.interpolate-x.result; y = c.args.bounds.lat_min }) (rw (c.in-Bottom.is, c.interpolate-x.ensures))
    (search rules, search rules, search rules, search rules) (search rules, search rules) (search rules, search rules)

pub returns-in-Top-clause-crossing : goal.returns-in-Top-clause-crossing
unfolding crossing
returns-in-Top-clause-crossing c = rw (c.in-Top.is, c.interpolate-x-in-Top.ensures)

pub returns-in-Top-clause-error : goal.returns-in-Top-clause-error
unfolding crossing
returns-in-Top-clause-error c =
    told c.args.edge c.args.bounds c.args.a c.args.b (record { x = c.interpolate-x-in-Top.result; y = c.args.bounds.lat_max }) (rw (c.in-Top.is, c.interpolate-x-in-Top.ensures))
    (search rules, search rules, search rules, search rules) (search rules, search rules) (search rules, search rules)
