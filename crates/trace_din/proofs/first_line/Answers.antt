-- Each return is one case of `parsed`: no bytes, no label, no blank, too wide, or what `rest_of_line` says (the laws of Parsing). The line's end is the same from behind its label and blanks on (`same_line`).
use mathlib.Core.Path.{sym, ◌∙◌}
use native.Mathlib.Omega.{arith}
use Rattle.std.proofs.Common.{rules, tests}
use lib.ListN.{get_or}
use Rattle.trace_din.specs.Lines.{is_blank}
use Rattle.trace_din.proofs.Leading.{digit-bounds, leading-within}
use Rattle.trace_din.proofs.Parsing.{Labels, no_bytes, no_label, label-line, no-blank, same_line, wide-line, narrow-line}
use Rattle.trace_din.proofs.first_line.Goals as goal

pub returns-then-is_empty : goal.returns-then-is_empty
returns-then-is_empty c =
    let x = no_bytes c.args.bytes.now (search (tests, rules)) in
    record { end = x.0; parsed = x.1 }

pub returns-then-not-is_digit : goal.returns-then-not-is_digit
returns-then-not-is_digit c =
    record { end = omega (arith, c.line_end.ensures); parsed = no_label c.args.bytes.now (sym c.is_digit.ensures ∙ c.if-not-is_digit.true) }

pub returns-then-from-eq1 : goal.returns-then-from-eq1
returns-then-from-eq1 c =
    let h : Labels c.args.bytes.now = (search (tests, rules), sym c.is_digit.ensures ∙ c.if-not-is_digit.false) in
    record {
      end = label-line c.args.bytes.now c.line_end-then-from-eq1.result h c.line_end-then-from-eq1.ensures;
      parsed = no-blank c.args.bytes.now h (omega (arith, c.blanks_end-from.ensures, c.if-from-eq1.true));
    }

pub overflow_sub-first : goal.overflow_sub-first
overflow_sub-first c = (digit-bounds (get_or c.args.bytes.now 0 0) (sym c.is_digit.ensures ∙ c.if-not-is_digit.false)).0

pub overflow_cast-first : goal.overflow_cast-first
overflow_cast-first c = record { fits = omega (arith, (digit-bounds (get_or c.args.bytes.now 0 0) (sym c.is_digit.ensures ∙ c.if-not-is_digit.false)).1) }

pub rest_of_line-rest-requires : goal.rest_of_line-rest-requires
rest_of_line-rest-requires c = omega (arith, c.blanks_end-from.ensures, leading-within is_blank c.args.bytes.now 1 (search (tests, rules)))

pub returns-then-rest : goal.returns-then-rest
returns-then-rest c =
    let h : Labels c.args.bytes.now = (search (tests, rules), sym c.is_digit.ensures ∙ c.if-not-is_digit.false) in
    let x = c.blanks_end-from.ensures in
    let y = c.rest_of_line-rest.ensures.end in
    record { end = same_line _ _ _ h x y; parsed = wide-line _ _ _ h x y c.if-rest.true }

pub returns : goal.returns
returns c =
    let h : Labels c.args.bytes.now = (search (tests, rules), sym c.is_digit.ensures ∙ c.if-not-is_digit.false) in
    let x = c.blanks_end-from.ensures in
    let y = c.rest_of_line-rest.ensures in
    record {
      end = same_line _ _ _ h x y.end;
      parsed = y.parsed ∙ narrow-line _ _ _ h x c.if-from-eq1.false y.end (omega (arith, c.if-rest.false));
    }
