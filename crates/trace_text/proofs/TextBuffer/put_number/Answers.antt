-- The digits written behind the text are as many as the number takes, and so `decimal` of it.
use Rattle.std.proofs.Common.{rules, ◌≡◌, ◌++◌, ap₂, ◌∙◌, arith}
use Rattle.std.proofs.lemmas.Slice.{take-put_mid}
use Rattle.trace_text.specs.Digits.{last_digits}
use Rattle.trace_text.specs.Text.{decimal}
use Rattle.trace_text.proofs.Decimal.{fewest_decimal}
use Rattle.trace_text.proofs.TextBuffer.put_number.Goals as goal

pub returns-clause-appended : goal.returns-clause-appended
returns-clause-appended c =
    let digits : last_digits 10 c.digit_count.result c.args.number ≡ decimal c.args.number = fewest_decimal _ _ (omega arith) c.digit_count.ensures.fewest in
    let written : c.write_digits.new.out ≡ decimal c.args.number = search (rules, digits) in
    take-put_mid _ _ c.self.inside.bytes c.write_digits.new.out _ (search rules) (omega arith) ∙ ap₂ ◌++◌ c.self.view_is written
