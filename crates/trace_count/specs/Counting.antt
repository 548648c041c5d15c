-- A count of a trace over lent tables: what a line that ends makes of it, and what is reported of it.
use Rattle.std.specs.Prelude.{ℕ, ◌+◌, ◌≤◌, ◌≡◌, cond, Option, Some, None, Result, List, eqb}
use Rattle.protocol_types.specs.Refusals.{no_refusal, number}
use Rattle.protocol.specs.Tables.{Tables}
use Rattle.protocol.specs.Accounts.{fresh_account, Spent, bill_of}
use Rattle.protocol.specs.Engines.{State}
use Rattle.engine.specs.Usable.{Usable}
use Rattle.protocol_types.specs.declared.Refusal.{Refusal}
use Rattle.protocol_types.specs.declared.Account.{Account}
use Rattle.protocol_types.specs.declared.Request.{Request}
use Rattle.trace_din.specs.declared.Parsed.{Parsed}
use Rattle.trace_scan.specs.Automaton.{new_line, with_bytes}
use Rattle.trace_scan.specs.declared.Line.{Line}
use Rattle.trace_lines.specs.Trace.{trace_setup, interpreted, line_refusal, after_line}
use Rattle.trace_lines.specs.declared.ReportNumbers.{ReportNumbers}
use Rattle.trace_count.specs.declared.Count.{Count}

-- a count, with the number of its refusal, 0 if none
pub record CountNumbers : Type 0 where
  pub line : Line
  pub line_number : ℕ
  pub account : Account
  pub refusal : ℕ

abbrev pub refusal_or_none : Option Refusal → ℕ
refusal_or_none None = no_refusal
refusal_or_none (Some r) = number r

abbrev pub count_numbers : Count → CountNumbers
count_numbers c = record { line = c.line; line_number = c.line_number; account = c.account; refusal = refusal_or_none c.refusal }

-- a count, with the lent tables
pub record CountStage : Type 0 where
  pub count : CountNumbers
  pub tables : Tables

abbrev pub stage : CountNumbers → Tables → CountStage
stage c t = record { count = c; tables = t }

abbrev pub count_stage : Count → Tables → CountStage
count_stage c t = stage (count_numbers c) t

-- the tables and the account
abbrev pub state_of : CountStage → State Tables
state_of x = record { tables = x.tables; account = x.count.account }

-- before the first byte: "the line number, from 1"
abbrev pub fresh_count : CountNumbers
fresh_count = record { line = new_line; line_number = 1; account = fresh_account; refusal = no_refusal }

-- ---- the current line

-- more bytes of it
abbrev pub lengthened : CountNumbers → List ℕ → CountNumbers
lengthened c bs = record { line = with_bytes c.line bs; line_number = c.line_number; account = c.account; refusal = c.refusal }

-- it is refused by r
abbrev pub line_refused : ℕ → CountNumbers → CountNumbers
line_refused r c = record { line = new_line; line_number = c.line_number; account = c.account; refusal = r }

-- at the start of line n, with no refusal
abbrev pub going_on : ℕ → State Tables → CountStage
going_on n w = stage (record { line = new_line; line_number = n; account = w.account; refusal = no_refusal }) w.tables

-- it asks for y
unfoldable pub line_counted : CountStage → Result Request Refusal → CountStage
line_counted x y =
    cond (eqb (line_refusal (state_of x) y) no_refusal)
    (going_on (x.count.line_number + 1) (after_line (state_of x) y))
    (stage (line_refused (line_refusal (state_of x) y) x.count) x.tables)

-- it ends, and is so parsed
abbrev pub line_ended : CountStage → Option Parsed → CountStage
line_ended x y = line_counted x (interpreted x.count.line_number y)

-- ---- the report

-- the refused line is the current one
unfoldable pub reported : CountNumbers → ReportNumbers
reported c = record { account = c.account; refusal = c.refusal; line = cond (eqb c.refusal no_refusal) 0 c.line_number }

-- ---- what functions ask for

-- a count that can go on
pub record Countable (x : CountStage) : Type 0 where
  -- condition 21, as facts
  pub account : Spent trace_setup x.count.account.requests (bill_of x.count.account)
  -- every line before was a request, so that 22 comes before the line number can be too large
  pub line-number : x.count.line_number ≤ x.count.account.requests + 1
  pub tables : Usable trace_setup x.tables

-- a count at the start of a line, with no refusal
pub record AtStart (c : CountNumbers) : Type 0 where
  pub line : c.line ≡ new_line
  pub refusal : c.refusal ≡ no_refusal
