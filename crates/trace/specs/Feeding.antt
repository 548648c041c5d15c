-- A trace counted byte by byte over lent tables. That this gives `ended` of the bytes is proved in proofs/Whole.antt.
use Rattle.std.specs.Prelude.{ℕ, cond, List, [], ◌∷◌, eqb}
use Rattle.protocol_types.specs.Refusals.{no_refusal}
use Rattle.protocol.specs.Tables.{Tables}
use Rattle.trace_din.specs.Lines.{newline}
use Rattle.trace_scan.specs.Automaton.{scan_parsed}
use Rattle.trace_lines.specs.Trace.{Ended}
use Rattle.trace_lines.specs.declared.ReportNumbers.{ReportNumbers}
use Rattle.trace_count.specs.Counting.{CountStage, stage, lengthened, line_ended, reported}

-- ---- bytes

-- the current line ends
unfoldable pub current_ended : CountStage → CountStage
current_ended x = line_ended x (scan_parsed x.count.line.scan)

-- more bytes of the current line
abbrev pub extended : CountStage → List ℕ → CountStage
extended x l = stage (lengthened x.count l) x.tables

-- one byte; after a refusal nothing changes any more
unfoldable pub stepped : CountStage → ℕ → CountStage
stepped x b = cond (eqb x.count.refusal no_refusal) (cond (eqb b newline) (current_ended x) (extended x (b ∷ []))) x

abbrev pub fed : CountStage → List ℕ → CountStage
fed x [] = x
fed x (b ∷ bs) = fed (stepped x b) bs

-- ---- the end of the input

-- a last line without its newline ends
unfoldable pub closed : CountStage → CountStage
closed x = cond (eqb x.count.refusal no_refusal) (cond (eqb x.count.line.width 0) x (current_ended x)) x

-- what is reported, and the tables
abbrev pub reporting : ReportNumbers → Tables → Ended
reporting r t = record { report = r; tables = t }

unfoldable pub finished : CountStage → Ended
finished x = reporting (reported (closed x).count) (closed x).tables
