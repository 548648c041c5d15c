-- What reads of standard input come to. No contract says what a read answers, but that it is no more bytes than the buffer holds, or which bytes it brings; all that follows from these is defined here.
use Rattle.std.specs.Prelude.{ℕ, ◌-◌, ◌^◌, ◌≡◌, Bool, true, false, cond, Option, unwrap_or, is_none, Result, Ok, Err, is_err, List, [], ◌∷◌, ◌++◌, eqb, length, take}
use Rattle.protocol_types.specs.Refusals.{no_refusal}
use Rattle.protocol.specs.Tables.{Tables, fresh}
use Rattle.trace_lines.specs.Trace.{trace_setup, report_numbers, report}
use Rattle.trace_lines.specs.declared.Report.{Report}
use Rattle.std.specs.declared.ops.ControlFlow.{ControlFlow}
use Rattle.std.specs.declared.ops.ControlFlow.TheVariants.{Continue, Break}
use Rattle.trace_count.specs.declared.Count.{Count}
use Rattle.trace_count.specs.Counting.{CountStage, count_stage, stage, fresh_count}
use Rattle.trace.specs.Feeding.{fed}
use Rattle.trace_report.specs.declared.ReadFailed.{ReadFailed}
use Rattle.trace_report.specs.declared.Delivery.{Delivery}

-- ---- one read

-- what a read answered (a number of bytes, 0 at the end of the input, none where it failed), and the buffer as it left it
pub record Read : Type 0 where
  pub got : Option ℕ
  pub buffer : List ℕ

abbrev pub read_of : Option ℕ → List ℕ → Read
read_of g b = record { got = g; buffer = b }

-- it brought no byte
abbrev pub is_last : Read → Bool
is_last d = eqb (unwrap_or d.got 0) 0

-- the bytes that it brought
abbrev pub brought : Read → List ℕ
brought d = take (unwrap_or d.got 0) d.buffer

-- ---- the count after it

-- whether to read on, whether a read failed, and the count with its tables
pub record Reading : Type 0 where
  pub going : Bool
  pub failed : Bool
  pub stage : CountStage

-- what was read, in all or before a read failed
abbrev pub so_far : {A : Type 0} → Result A (ReadFailed A) → A
so_far (Ok x) = x
so_far (Err e) = e.before

-- the same of what a read led to
abbrev pub reading : ControlFlow (Result Count (ReadFailed Count)) Count → Tables → Reading
reading (Continue c) t = record { going = true; failed = false; stage = count_stage c t }
reading (Break r) t = record { going = false; failed = is_err r; stage = count_stage (so_far r) t }

-- reading goes on until a line is refused
abbrev pub counted : CountStage → Reading
counted x = record { going = eqb x.count.refusal no_refusal; failed = false; stage = x }

-- it stops where a read brings no byte, and has failed if the read has
unfoldable pub after_read : CountStage → Read → Reading
after_read x d = cond (is_last d) (record { going = false; failed = is_none d.got; stage = x }) (counted (fed x (brought d)))

-- one read, whatever it answered, led from x to y and left this buffer
pub record Took (x : CountStage) (buffer : List ℕ) (y : Reading) : Type 0 where
  pub got : Option ℕ
  pub is : y ≡ after_read x (read_of got buffer)

-- ---- all reads, the last one first

abbrev pub after_reads : List Read → Reading
after_reads [] = record { going = true; failed = false; stage = stage fresh_count (fresh trace_setup) }
after_reads (d ∷ ds) = after_read (after_reads ds).stage d

abbrev pub all_brought : List Read → List ℕ
all_brought [] = []
all_brought (d ∷ ds) = all_brought ds ++ brought d

-- each was made because those before it left more to read
abbrev pub InTurn : List Read → Type 0
InTurn [] = Unit {0}
InTurn (d ∷ ds) = ((after_reads ds).going ≡ true) × InTurn ds

-- and no more is to be read, or 2^64 − 1 reads were made
pub record AllRead (ds : List Read) : Type 0 where
  pub in-turn : InTurn ds
  pub ended : (after_reads ds).going ≡ true → length ds ≡ 2 ^ 64 - 1

-- a count after such reads
pub record Reached (x : Reading) : Type 0 where
  pub reads : List Read
  pub all_read : AllRead reads
  pub is : x ≡ after_reads reads

-- the report of all the bytes of such reads, and whether the last one failed
pub record Reported (a : Result Report (ReadFailed Report)) : Type 0 where
  pub reads : List Read
  pub all_read : AllRead reads
  pub failure : is_err a ≡ (after_reads reads).failed
  pub is : report_numbers (so_far a) ≡ report (all_brought reads)

-- ---- what is written

-- no report is written after a failed read. No contract says more of a write: neither whether it takes the bytes, nor that they arrive
abbrev pub Withheld : Bool → Bool → Type 0
Withheld failed written = failed ≡ true → written ≡ false

pub record Delivered (o : Delivery) : Type 0 where
  pub reported : Reported o.answer
  pub withheld : Withheld (is_err o.answer) o.written
