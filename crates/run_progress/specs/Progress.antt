-- A run between two requests, of any engine: T are its tables, Q its requests.
use Rattle.std.specs.Prelude.{ℕ, ◌+◌, ◌<◌, ◌^◌, ◌≡◌, true, List}
use Rattle.protocol_types.specs.Refusals.{no_refusal}
use Rattle.protocol_types.specs.Board.{Fits}
use Rattle.protocol.specs.Accounts.{entered, possible}
use Rattle.protocol.specs.Engines.{Engine, Outcome}
use Rattle.protocol_types.specs.declared.Setup.{Setup}
use Rattle.protocol_types.specs.declared.Bill.{Bill}
use Rattle.protocol_types.specs.declared.Account.{Account}
use Rattle.protocol_types.specs.Answers.{RunAnswer}

-- the sums fit: an account's, with n requests more and their bill
pub record Room (a : Account) (n : ℕ) (c : Bill) : Type 0 where
  pub requests : a.requests + n < 2 ^ 32
  pub fetch : a.fetch + c.fetch < 2 ^ 32
  pub write-back : a.write_back + c.write_back < 2 ^ 32
  pub update : a.update + c.update < 2 ^ 32

-- what a run answers and leaves
abbrev pub outcome : {T : Type 0} → RunAnswer → T → Account → List ℕ → Outcome T
outcome r t a vs = record { answer = r; tables = t; account = a; values = vs }

-- what the next request asks of the tables and the account, where Good holds of the tables that the engine serves
pub record Ready {T : Type 0} (s : Setup) (Good : T → Type 0) (t : T) (a : Account) : Type 0 where
  pub fits : Fits s
  pub good : Good t
  pub account : possible s a ≡ true

-- ---- one request q, from tables t and account a to tables u and account b

module _ {T Q : Type 0} (E : Engine T Q) (t : T) (a : Account) (q : Q) (u : T) (b : Account) where
  -- it is served, v is its value, and its bill is added
  pub record Taken (v : ℕ) : Type 0 where
    pub passed : E.refusal a.requests q ≡ no_refusal
    pub value : v ≡ E.value t q
    pub tables : u ≡ E.served t q
    pub account : b ≡ entered a 1 (E.bill t q)

  -- it is refused by n, and changes nothing
  pub record Refused (n : ℕ) : Type 0 where
    pub refusal : n ≡ E.refusal a.requests q
    pub tables : u ≡ t
    pub account : b ≡ a
