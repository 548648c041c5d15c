-- What goes before the search for the best schedule: the lengths of what is lent, and the requests as numbers.
use Rattle.std.specs.Prelude.{ℕ, ◌≡◌, Bool, ◌&&◌, List, length, take, eqb}
use Rattle.protocol_types.specs.Refusals.{no_refusal, number}
use Rattle.best_positions.specs.Position.{asked_all}
use Rattle.best_positions.specs.Best.{position_count, group_count, requests_refusal, requests_place}
use Rattle.protocol_types.specs.declared.Setup.{Setup}
use Rattle.protocol_types.specs.declared.Request.{Request}
use Rattle.protocol_types.specs.declared.PlacedRefusal.{PlacedRefusal}

-- 2, by the lengths of the four tables and of the list
abbrev pub lengths_fit : ℕ → ℕ → ℕ → ℕ → ℕ → Bool
lengths_fit d o p l n = eqb d position_count && eqb o position_count && eqb p position_count && eqb l group_count && eqb n position_count

-- 3 and 4 let each request through, and their numbers stand at the front of `asks`
pub record AreAsked (s : Setup) (qs : List Request) (asks : List ℕ) : Type 0 where
  pub passed : requests_refusal s qs ≡ no_refusal
  pub many : length asks ≡ 24
  pub numbers : take (length qs) asks ≡ asked_all s qs

-- 3 or 4 at the first request that either meets, and its place
pub record IsFirstRefused (s : Setup) (qs : List Request) (r : PlacedRefusal) : Type 0 where
  pub refusal : number r.refusal ≡ requests_refusal s qs
  pub place : r.place ≡ requests_place s qs
