-- Entries played one after another into a lent list of numbers: what the functions promise.
use Rattle.std.specs.Prelude.{ℕ, ◌+◌, ◌*◌, ◌/◌, ◌≤◌, ◌<◌, ◌≡◌, List, length, set}
use Rattle.std.proofs.lemmas.List.Edits.{sets}
use Rattle.protocol_types.specs.Board.{Fits}
use Rattle.protocol_types.specs.declared.Setup.{Setup}
use Rattle.best_search.specs.Search.{walk, total, forward}
use Rattle.best_positions.specs.Position.{entry_number, next_at, price_at, board}
use Rattle.best_own_parts.specs.declared.Playing.{Playing}

-- so many more entries may be played from a
pub record Ready (s : Setup) (a : Playing) (numbers : List ℕ) (few : ℕ) : Type 0 where
  pub fits : Fits s
  pub small : s.blocks ≤ 4
  pub position : a.position < 32400
  pub room : a.length + few ≤ 32400
  pub cost : a.cost + 32 * few ≤ 100000
  pub sized : length numbers ≡ 32400

-- entry k was played from a, and stands in the list
pub record Played (s : Setup) (asks : List ℕ) (k : ℕ) (a z : Playing) (before after : List ℕ) : Type 0 where
  pub position : z.position ≡ next_at asks a.position k
  pub count : z.length ≡ a.length + 1
  pub cost : z.cost ≡ a.cost + price_at s asks a.position k
  pub numbers : after ≡ set before a.length (entry_number a.position k)

-- the entries ks were: at most `few`, at a cost of at most `price`, which serve `served` requests
pub record Moved (s : Setup) (asks ks : List ℕ) (few price served : ℕ) (a z : Playing) (before after : List ℕ) : Type 0 where
  pub position : z.position ≡ walk (board s asks) a.position ks
  pub count : z.length ≡ a.length + length ks
  pub cost : z.cost ≡ a.cost + total (board s asks) a.position ks
  pub numbers : after ≡ sets before a.length (forward (board s asks) entry_number a.position ks)
  pub sized : length after ≡ length before
  pub short : z.length ≤ a.length + few
  pub cheap : z.cost ≤ a.cost + price
  pub layer : z.position / 1296 ≡ a.position / 1296 + served
