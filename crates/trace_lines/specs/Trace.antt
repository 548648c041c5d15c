-- What the trace program reports for the bytes of its input (document 01, "The trace program"; label 4: document 02, P6).
use Rattle.std.specs.Prelude.{ℕ, ◌+◌, ◌/◌, ◌%◌, cond, Option, Some, None, Result, Ok, Err, List, [], ◌∷◌, eqb}
use Rattle.protocol_types.specs.Refusals.{no_refusal, number, wrong_length}
use Rattle.protocol.specs.Tables.{Tables, sized}
use Rattle.protocol_types.specs.Conditions.{request_refusal}
use Rattle.protocol.specs.Requests.{served, bill}
use Rattle.protocol.specs.Accounts.{fresh_account, entered}
use Rattle.protocol.specs.Engines.{State}
use Rattle.protocol.specs.Runs.{opening}
use Rattle.protocol_types.specs.declared.Setup.{Setup}
use Rattle.protocol_types.specs.declared.Variable.{Variable}
use Rattle.protocol_types.specs.declared.Request.{Request}
use Rattle.protocol_types.specs.declared.Operation.TheVariants.{Read, Write, Clear}
use Rattle.trace_din.specs.Lines.{lines_of, parsed}
use Rattle.trace_din.specs.declared.Parsed.{Parsed}
use Rattle.protocol_types.specs.declared.Refusal.{Refusal}
use Rattle.protocol_types.specs.declared.Refusal.TheVariants.{MalformedLine, UnknownLabel}
use Rattle.trace_lines.specs.declared.RefusedLine.{RefusedLine}
use Rattle.trace_lines.specs.declared.Report.{Report}
use Rattle.trace_lines.specs.declared.ReportNumbers.{ReportNumbers}

-- "Its setup is N 4, L 8, p 4, M 64."; "`buscount` uses f 4, g 4"
unfoldable pub trace_setup : Setup
trace_setup = record { processors = 4; lines = 8; words = 4; blocks = 64; fetch_price = 4; write_back_price = 4 }

-- ---- what a line asks for

-- "The address is 32 bits": the addresses of one processor are 24 bits
abbrev pub processor_stride : ℕ
processor_stride = 16777216

-- "top byte the processor"
unfoldable pub processor_at : ℕ → ℕ
processor_at a = a / processor_stride

-- "the low 24 bits divided by 4, rounded down, the variable"
unfoldable pub variable_at : ℕ → Variable
variable_at a = record { 0 = a % processor_stride / 4 }

-- a read at address a, a write of x there, and a clear, of which only "its processor in the top byte" counts
abbrev pub read_at : ℕ → Request
read_at a = record { processor = processor_at a; operation = Read (variable_at a) }

abbrev pub write_at : ℕ → ℕ → Request
write_at a x = record { processor = processor_at a; operation = Write (variable_at a) x }

abbrev pub clear_at : ℕ → Request
clear_at a = record { processor = processor_at a; operation = Clear }

-- the table of labels. "Labels 0 and 2 read, 1 writes … The value written is the line number"; a clear: "Trace label 4 means this … and 7 no longer meets it".
-- Line n has label d and address a
unfoldable pub interpreted_label : ℕ → ℕ → ℕ → Result Request Refusal
interpreted_label n d a =
    cond (eqb d 0) (Ok (read_at a))
    (cond (eqb d 1) (Ok (write_at a n))
    (cond (eqb d 2) (Ok (read_at a))
    (cond (eqb d 4) (Ok (clear_at a))
    (Err UnknownLabel))))

-- line n, from its form
abbrev pub interpreted : ℕ → Option Parsed → Result Request Refusal
interpreted n None = Err MalformedLine
interpreted n (Some p) = interpreted_label n p.label p.address

-- ---- a line, by what it asks for, after the state w

-- "Each line is checked for 6, 7, 3, 4, 22 in that order"; a clear names no variable, so 4 cannot apply
abbrev pub line_refusal : State Tables → Result Request Refusal → ℕ
line_refusal w (Err r) = number r
line_refusal w (Ok q) = request_refusal trace_setup w.account.requests q

-- the tables and the account after a request
unfoldable pub after_request : State Tables → Request → State Tables
after_request w q = record { tables = served trace_setup w.tables q; account = entered w.account 1 (bill trace_setup w.tables q) }

-- after a line that is not refused
abbrev pub after_line : State Tables → Result Request Refusal → State Tables
after_line w (Err r) = w
after_line w (Ok q) = after_request w q

-- ---- what is reported

-- the numbers of a refused line, "0 0 if none"
abbrev pub refused_number : Option RefusedLine → ℕ
refused_number None = no_refusal
refused_number (Some x) = number x.refusal

abbrev pub refused_line_number : Option RefusedLine → ℕ
refused_line_number None = 0
refused_line_number (Some x) = x.line

-- the account and those numbers
abbrev pub report_numbers : Report → ReportNumbers
report_numbers r = record { account = r.account; refusal = refused_number r.refused; line = refused_line_number r.refused }

-- of a trace that was counted, or whose tables were refused
abbrev pub answer_numbers : Result Report Refusal → ReportNumbers
answer_numbers (Ok r) = report_numbers r
answer_numbers (Err e) = record { account = fresh_account; refusal = number e; line = 0 }

-- ---- a trace

-- what is reported, and the tables that are left
pub record Ended : Type 0 where
  pub report : ReportNumbers
  pub tables : Tables

-- "requests taken, cycles of each kind …, then refusal number and line number"
abbrev pub ended_at : State Tables → ℕ → ℕ → Ended
ended_at w r n = record { report = record { account = w.account; refusal = r; line = n }; tables = w.tables }

-- from line n on: "It stops at the first refused line"; "0 0 if none"
abbrev pub traced : State Tables → ℕ → List (List ℕ) → Ended
traced w n [] = ended_at w no_refusal 0
traced w n (l ∷ ls) =
    cond (eqb (line_refusal w (interpreted n (parsed l))) no_refusal)
    (traced (after_line w (interpreted n (parsed l))) (n + 1) ls)
    (ended_at w (line_refusal w (interpreted n (parsed l))) n)

-- a trace from fresh tables and a fresh account, "the line number, from 1"
unfoldable pub ended : List ℕ → Ended
ended bs = traced (opening trace_setup fresh_account) 1 (lines_of bs)

-- what `buscount` reports for the bytes of its input
unfoldable pub report : List ℕ → ReportNumbers
report bs = (ended bs).report

-- the same over lent tables, whatever they hold; tables of the wrong lengths are refused by 2 and stay as they are
unfoldable pub ended_on : Tables → List ℕ → Ended
ended_on t bs = cond (sized trace_setup t) (ended bs) (ended_at (record { tables = t; account = fresh_account }) wrong_length 0)
