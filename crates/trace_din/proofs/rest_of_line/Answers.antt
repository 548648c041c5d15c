-- Each return is one case of `addressed`: no digit or too many, a wrong byte behind them, or a gap or the line's end (the `address-…` laws of Parsing). The line's end is the same from behind the digits on (`digits-line`).
use mathlib.Core.Path.{sym, ◌∙◌}
use native.Mathlib.Omega.{arith}
use Rattle.trace_din.specs.Lines.{is_hex}
use Rattle.trace_din.proofs.Leading.{leading-within}
use Rattle.trace_din.proofs.Parsing.{digits-line, within-line, address-none, address-long, address-bad, address-good, address-last}
use Rattle.trace_din.proofs.rest_of_line.Goals as goal
use Rattle.trace_din.proofs.rest_of_line.Goals.{then-count-lt1-via-then-count-lt1, then-count-lt1-via-else-count-lt1+then-count, else-behind-end-via-then-behind-end+else-not-is_gap, else-behind-end-via-else-behind-end}

pub line_end-end-requires : goal.line_end-end-requires
line_end-end-requires c =
    omega (arith, c.address_at-address.ensures.end, leading-within is_hex c.args.bytes.now c.args.from c.requires)

pub overflow_sub-count : goal.overflow_sub-count
overflow_sub-count c = omega (arith, c.address_at-address.ensures.end)

pub returns-then-count-lt1 : goal.returns-then-count-lt1
returns-then-count-lt1 c =
    let x = c.address_at-address.ensures.end in
    record {
      end = digits-line _ _ _ _ x c.line_end-end.ensures;
      parsed = elim c.then-count-lt1.branch [
        | then-count-lt1-via-then-count-lt1 w ↦ address-none _ _ _ _ x (omega (arith, w.if-count-lt1.true))
        | then-count-lt1-via-else-count-lt1+then-count w ↦ address-long _ _ _ _ x (omega (arith, w.if-count.true))
      ];
    }

pub bounds-bytes-behind : goal.bounds-bytes-behind
bounds-bytes-behind c =
    within-line _ _ _ _ c.requires c.address_at-address.ensures.end c.line_end-end.ensures c.if-behind-end.true

pub returns-then-not-is_gap : goal.returns-then-not-is_gap
returns-then-not-is_gap c =
    let x = c.address_at-address.ensures.end in
    let y = c.line_end-end.ensures in
    record {
      end = digits-line _ _ _ _ x y;
      parsed = address-bad _ _ _ _ _ c.requires x y (omega (arith, c.if-count-lt1.false)) (omega (arith, c.if-count.false)) c.if-behind-end.true (sym c.is_gap.ensures ∙ c.if-not-is_gap.true);
    }

pub returns : goal.returns
returns c =
    let x = c.address_at-address.ensures in
    let y = c.line_end-end.ensures in
    record {
      end = digits-line _ _ _ _ x.end y;
      parsed = elim c.else-behind-end.branch [
        | else-behind-end-via-then-behind-end+else-not-is_gap w ↦ address-good _ _ _ _ _ _ c.requires x.end y (omega (arith, c.if-count-lt1.false)) (omega (arith, c.if-count.false)) w.if-behind-end.true (sym w.is_gap.ensures ∙ w.if-not-is_gap.false) x.number
        | else-behind-end-via-else-behind-end w ↦ address-last _ _ _ _ _ _ x.end y (omega (arith, c.if-count-lt1.false)) (omega (arith, c.if-count.false)) (omega (arith, w.if-behind-end.false)) x.number
      ];
    }
