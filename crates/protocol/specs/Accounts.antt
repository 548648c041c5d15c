-- Bills and accounts (document 01, "The board" and condition 21).
use Rattle.std.specs.Prelude.{ℕ, ◌+◌, ◌*◌, ◌≤◌, Bool, ◌&&◌, leb}
use Rattle.protocol_types.specs.Board.{fetch_price, most_write_back}
use Rattle.protocol_types.specs.declared.Setup.{Setup}
use Rattle.protocol_types.specs.declared.Bill.{Bill}
use Rattle.protocol_types.specs.declared.Account.{Account}

-- ---- bills

abbrev pub nothing : Bill
nothing = record { fetch = 0; write_back = 0; update = 0 }

abbrev pub plus : Bill → Bill → Bill
plus c d = record { fetch = c.fetch + d.fetch; write_back = c.write_back + d.write_back; update = c.update + d.update }

-- the cycles of a bill, all kinds together
abbrev pub cycles : Bill → ℕ
cycles c = c.fetch + c.write_back + c.update

-- "fetch plus update cycles" (document 02, P4)
abbrev pub fetch_and_update : Bill → ℕ
fetch_and_update c = c.fetch + c.update

-- ---- accounts: "a record of requests taken and of fetch, write-back and update cycles"

-- "a fresh account is all zeros"
abbrev pub fresh_account : Account
fresh_account = record { requests = 0; fetch = 0; write_back = 0; update = 0 }

-- the account after n requests more, with their bill
abbrev pub entered : Account → ℕ → Bill → Account
entered a n c = record {
  requests = a.requests + n;
  fetch = a.fetch + c.fetch;
  write_back = a.write_back + c.write_back;
  update = a.update + c.update;
}

-- "the account's three cycle counts together"
abbrev pub cycles_of : Account → ℕ
cycles_of a = a.fetch + a.write_back + a.update

-- ---- condition 21

-- the cycles of c are no more than n requests can cost
pub record Spent (s : Setup) (n : ℕ) (c : Bill) : Type 0 where
  pub fetch : c.fetch ≤ fetch_price s * n
  pub write-back : c.write_back ≤ most_write_back s * n
  pub update : c.update ≤ n

-- the cycles of an account, as a bill
abbrev pub bill_of : Account → Bill
bill_of a = record { fetch = a.fetch; write_back = a.write_back; update = a.update }

-- 21: impossible if fetch cycles are over f × requests, write-back cycles over g × L × requests (document 02, P6), or update cycles over requests
unfoldable pub possible : Setup → Account → Bool
possible s a =
    leb a.fetch (fetch_price s * a.requests) && leb a.write_back (most_write_back s * a.requests)
    && leb a.update a.requests
