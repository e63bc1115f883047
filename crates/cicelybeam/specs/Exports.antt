-- What the structs of the exports tell. Definitions only.
use Rattle.vector.specs.Tolerance.{ToldTolerance}
use Rattle.stitch.specs.Entry.{Told}
use Rattle.cuts.specs.Lines.{ToldLine}
use Rattle.cicelybeam.specs.declared.Section.{Section}
use Rattle.cicelybeam.specs.declared.Line.{Line}
use Rattle.cicelybeam.specs.declared.Tolerance.{Tolerance}

-- a section's numbers, as docs/RULES.md has them
abbrev pub told_in : Section → Told
told_in r =
    record {
      refusal = r.refusal;
      answer =
          record {
            points = r.points;
            nodes = r.nodes;
            loops = r.loops;
            counts = record { listed = r.listed; in_loops = r.in_loops; pinched = r.pinched; flat = r.flat; opened = r.opened };
          };
    }

-- a line section's
abbrev pub told_line_in : Line → ToldLine
told_line_in r = record { refusal = r.refusal; segments = r.segments }

-- a tolerance
abbrev pub told_tolerance_in : Tolerance → ToldTolerance
told_tolerance_in r = record { refusal = r.refusal; value = r.value }
