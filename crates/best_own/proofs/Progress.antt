-- After n requests, what is left makes the whole.
use Prim.Native.Nat.{ℕ, suc, ◌+◌, ◌*◌, ◌/◌, ◌≤◌, ◌<◌}
use mathlib.Core.Path.{◌≡◌, refl, sym, ap, ◌∙◌}
use mathlib.Core.List.{List, [], ◌++◌}
use native.Mathlib.Omega.{arith}
use native.Mathlib.Numerals.{add-one}
use lib.ListN.{length, drop, length-append, drop_of_length-le}
use lib.Seq.{sets, sets-eq, drop-cons}
use Rattle.protocol_types.specs.Lists.{at, zeros}
use Rattle.protocol_types.specs.Board.{Fits}
use Rattle.protocol_types.specs.declared.Setup.{Setup}
use Rattle.best_search.specs.Search.{Graph, walk, total, forward}
use Rattle.best_positions.specs.Position.{entry_number, board}
use Rattle.best_own.specs.Own.{serving_codes, served_counters, own_from, own_codes, own_numbers}
use Rattle.best_own_parts.specs.Playing.{Ready, Moved}
use Rattle.best_own_parts.specs.declared.Playing.{Playing}
use Rattle.best_own_parts.proofs.Moves.{total-append, forward-append, length-forward, sets-append}

-- the entries that are left
abbrev rest_of : Setup → List ℕ → ℕ → ℕ → List ℕ → List ℕ
rest_of s asks n u c = own_from s asks u c (drop n asks)

pub record Progress (s : Setup) (asks before : List ℕ) (n : ℕ) (a : Playing) (c numbers : List ℕ) : Type 0 where
  pub few : n ≤ length asks
  pub layer : a.position / 1296 ≡ n
  pub short : a.length ≤ 129 * n
  pub cheap : a.cost ≤ 2080 * n
  pub sized : length numbers ≡ 32400
  count : a.length + length (rest_of s asks n a.position c) ≡ length (own_codes s asks)
  costs : a.cost + total (board s asks) a.position (rest_of s asks n a.position c) ≡ total (board s asks) 0 (own_codes s asks)
  written : sets numbers a.length (forward (board s asks) entry_number a.position (rest_of s asks n a.position c)) ≡ sets before 0 (own_numbers s asks)

pub progress_start : (s : Setup) (asks before : List ℕ) → length before ≡ 32400
    → Progress s asks before 0 (record { position = 0; length = 0; cost = 0 }) (zeros 8) before
unfolding own_codes own_numbers
progress_start s asks before h =
    record { few = omega arith; layer = refl; short = omega arith; cheap = omega arith; sized = h; count = omega arith; costs = omega arith; written = refl }

module _ {s : Setup} {asks before : List ℕ} {n : ℕ} {a : Playing} {c numbers : List ℕ} (p : Progress s asks before n a c numbers) where
  -- another request can be played
  pub progress-ready : Fits s → s.blocks ≤ 4 → length asks ≤ 24 → n < length asks → Ready s a numbers 129
  progress-ready ok small few h =
      record {
        fits = ok;
        small = small;
        position = omega (arith, p.layer);
        room = omega (arith, p.short);
        cost = omega (arith, p.cheap);
        sized = p.sized;
      }

  pub progress-next : n < length asks → (z : Playing) (c' after : List ℕ) (ask : ℕ) → ask ≡ at asks n → c' ≡ served_counters s a.position c ask
      → Moved s asks (serving_codes s a.position c ask) 129 2080 1 a z numbers after → Progress s asks before (n + 1) z c' after
  progress-next h z c' after ask is_ask is_c m =
      record {
        few = omega arith;
        layer = m.layer ∙ ap (λ x. x + 1) p.layer;
        short = omega (arith, m.short, p.short);
        cheap = omega (arith, m.cheap, p.cheap);
        sized = m.sized ∙ p.sized;
        count = omega (arith, m.count, p.count, ap length split, length-append ks later, ap length later-is);
        costs = omega (arith, m.cost, p.costs, ap (total g u) split, total-append g u ks later, ap (λ x. total g x later) m.position, ap (total g z.position) later-is);
        written =
            ap (λ x. sets after z.length (forward g entry_number z.position x)) later-is
            ∙ ap (λ x. sets after z.length (forward g entry_number x later)) m.position
            ∙ ap (λ x. sets x z.length (forward g entry_number (walk g u ks) later)) m.numbers
            ∙ ap (λ x. sets (sets numbers a.length (forward g entry_number u ks)) x (forward g entry_number (walk g u ks) later)) place
            ∙ sym (sets-append numbers a.length (forward g entry_number u ks) (forward g entry_number (walk g u ks) later))
            ∙ ap (sets numbers a.length) (sym (forward-append g entry_number u ks later) ∙ ap (forward g entry_number u) (sym split))
            ∙ p.written;
      }
    where
      g : Graph
      g = board s asks

      u : ℕ
      u = a.position

      ks : List ℕ
      ks = serving_codes s u c ask

      later : List ℕ
      later = own_from s asks (walk g u ks) (served_counters s u c ask) (drop (suc n) asks)

      split : rest_of s asks n u c ≡ ks ++ later
      split = rw is_ask (ap (own_from s asks u c) (drop-cons asks n 0 h))

      later-is : rest_of s asks (n + 1) z.position c' ≡ later
      later-is = rw (m.position, is_c, add-one n)

      place : z.length ≡ a.length + length (forward g entry_number u ks)
      place = omega (arith, m.count, length-forward g entry_number u ks)

  -- no request is left
  module _ (few-asks : length asks ≤ 24) (h : length asks ≤ n) where
    none : rest_of s asks n a.position c ≡ []
    none = rw (drop_of_length-le asks h)

    pub progress-length : a.length ≡ length (own_numbers s asks)
    unfolding own_numbers
    progress-length = omega (arith, p.count, ap length none, length-forward (board s asks) entry_number 0 (own_codes s asks))

    pub progress-cost : a.cost ≡ total (board s asks) 0 (own_codes s asks)
    progress-cost = omega (arith, p.costs, ap (total (board s asks) a.position) none)

    pub progress-numbers : length before ≡ 32400 → numbers ≡ own_numbers s asks ++ drop (length (own_numbers s asks)) before
    progress-numbers e =
        let z : 0 + length (own_numbers s asks) ≡ length (own_numbers s asks) = omega arith in
        sym (ap (λ x. sets numbers a.length (forward (board s asks) entry_number a.position x)) none) ∙ p.written
        ∙ sets-eq (own_numbers s asks) before 0 (omega (arith, progress-length, p.short, p.few)) ∙ ap (λ x. own_numbers s asks ++ drop x before) z
