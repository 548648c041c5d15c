-- Test by test: a product of 64 bits is the definition's.
use Prim.Native.Nat.{◌*◌, ◌<◌, ◌≤◌}
use mathlib.Core.Path.{◌≡◌, refl, sym, ap, ◌∙◌}
use mathlib.Core.Bool.{Bool, true, false, true≢false}
use borrow.Author.Tests.{le-leb, lt-leb}
use lib.Dec.{leb}
use Rattle.protocol_types.specs.Board.{fetch_price, most_write_back}
use Rattle.protocol_types.specs.declared.Setup.{Setup}
use Rattle.protocol_types.specs.declared.Account.{Account}
use Rattle.protocol.specs.Accounts.{possible}
use Rattle.run_progress.proofs.is_possible.Goals.{then-account-most_cycles, else-account-most_cycles}
use Rattle.run_progress.proofs.is_possible.Goals as goal

module _ (s : Setup) (a : Account) where
  over-fetch : fetch_price s * a.requests < a.fetch → possible s a ≡ false
  unfolding possible
  over-fetch h = rw (lt-leb _ _ h) refl

  within-fetch : (y : Bool) → a.fetch ≤ fetch_price s * a.requests → y ≡ leb a.write_back (most_write_back s * a.requests) → (y ≡ false → possible s a ≡ false) × (y ≡ true → possible s a ≡ leb a.update a.requests)
  unfolding possible
  within-fetch y h e = (λ n. rw (le-leb _ _ h, sym e ∙ n) refl, λ n. rw (le-leb _ _ h, sym e ∙ n) refl)

pub returns-else-account-most_cycles-2 : goal.returns-else-account-most_cycles-2
returns-else-account-most_cycles-2 c =
    let s = c.args.setup in
    let a = c.args.account in
    let most : c.most_cycles.result ≡ fetch_price s * a.requests = c.most_cycles.ensures ∙ ap (λ z. z * a.requests) c.fetch_price.ensures in
    c.if-account-most_cycles-2.false ∙ sym (elim c.if-account-most_cycles.branch [
      | then-account-most_cycles w ↦
          let more = w.most_cycles-then-account-most_cycles.ensures ∙ ap (λ z. z * a.requests) w.most_write_back.ensures in
          (within-fetch s a _ (rw most at w.if-account-most_cycles.true) (w.value-is ∙ ap (leb a.write_back) more)).0 c.if-account-most_cycles-2.false
      | else-account-most_cycles w ↦ over-fetch s a (rw most at w.if-account-most_cycles.false)
    ])

pub returns-then-account-most_cycles-2 : goal.returns-then-account-most_cycles-2
returns-then-account-most_cycles-2 c =
    let s = c.args.setup in
    let a = c.args.account in
    let most : c.most_cycles.result ≡ fetch_price s * a.requests = c.most_cycles.ensures ∙ ap (λ z. z * a.requests) c.fetch_price.ensures in
    sym (elim c.if-account-most_cycles.branch [
      | then-account-most_cycles w ↦
          let more = w.most_cycles-then-account-most_cycles.ensures ∙ ap (λ z. z * a.requests) w.most_write_back.ensures in
          (within-fetch s a _ (rw most at w.if-account-most_cycles.true) (w.value-is ∙ ap (leb a.write_back) more)).1 c.if-account-most_cycles-2.true
      | else-account-most_cycles w ↦ absurd (true≢false (sym c.if-account-most_cycles-2.true ∙ w.value-is ∙ lt-leb _ _ w.if-account-most_cycles.false))
    ])
