-- Laws of orders of refusals: the first that refuses gives the number.
-- Assumes nothing.
use Prim.Native.Nat.{ℕ}
use mathlib.Core.Path.{◌≡◌, refl, sym, ◌∙◌}
use mathlib.Core.Logic.{◌≢◌}
use mathlib.Core.Bool.{Bool, true, false}
use lib.Dec.{eqb}
use borrow.Author.Tests.{eqb-true, eqb-false, eq-eqb, ne_eqb}
use Rattle.std.specs.Prelude.{Result, IsErrAnd}
use Rattle.std.proofs.lemmas.Result.{err_from_is_err_and}
use Rattle.protocol_types.specs.Refusals.{no_refusal, first_of, number, refusal_before}
use Rattle.protocol_types.specs.declared.Refusal.{Refusal}
use Rattle.protocol_types.specs.declared.Refusal.TheVariants.{SetupOutOfRange, WrongLength, NoSuchProcessor, NoSuchVariable, TooMany, MalformedLine, UnknownLabel, NoSuchBlock, BroadcastWithoutWrite, PriceOutOfRange, SeedZero, NotSearchable, UnsoundTables, ImpossibleAccount, AccountFull, LineInUse, BlockNotHeld, DropOfMarked, NoRequestLeft, CompletionNotHeld, RequestsLeft, CacheNotEmpty}

module _ (n m : ℕ) where
  pub first-refuses : n ≢ no_refusal → first_of n m ≡ n
  first-refuses d = rw (ne_eqb n no_refusal d)

  pub first_passes : n ≡ no_refusal → first_of n m ≡ m
  first_passes e = rw (eq-eqb n no_refusal e)

  -- what refuses nothing refuses nothing at either place
  pub neither-refuses : first_of n m ≡ no_refusal → (n ≡ no_refusal) × (m ≡ no_refusal)
  neither-refuses e = go (eqb n no_refusal) refl
    where
      go : (c : Bool) → eqb n no_refusal ≡ c → (n ≡ no_refusal) × (m ≡ no_refusal)
      go true h = let p = eqb-true _ _ h in (p, sym (first_passes p) ∙ e)
      go false h = let p = sym (first-refuses (eqb-false _ _ h)) ∙ e in absurd (eqb-false _ _ h p)

-- what a number that code got, and that refuses, tells of the conditions that it stands for
pub code-refuses : (n r : ℕ) → r ≡ n → r ≢ no_refusal → eqb n no_refusal ≡ false
code-refuses n r is-n d = ne_eqb n no_refusal (λ e. d (is-n ∙ e))

-- ---- a refusal's number is not 0

pub number-refuses : (r : Refusal) → eqb (number r) no_refusal ≡ false
number-refuses SetupOutOfRange = refl
number-refuses WrongLength = refl
number-refuses NoSuchProcessor = refl
number-refuses NoSuchVariable = refl
number-refuses TooMany = refl
number-refuses MalformedLine = refl
number-refuses UnknownLabel = refl
number-refuses NoSuchBlock = refl
number-refuses BroadcastWithoutWrite = refl
number-refuses PriceOutOfRange = refl
number-refuses SeedZero = refl
number-refuses NotSearchable = refl
number-refuses UnsoundTables = refl
number-refuses ImpossibleAccount = refl
number-refuses AccountFull = refl
number-refuses LineInUse = refl
number-refuses BlockNotHeld = refl
number-refuses DropOfMarked = refl
number-refuses NoRequestLeft = refl
number-refuses CompletionNotHeld = refl
number-refuses RequestsLeft = refl
number-refuses CacheNotEmpty = refl

pub some-number : (r : Refusal) → number r ≢ no_refusal
some-number r = eqb-false _ _ (number-refuses r)

pub number-is : (r : Refusal) (n : ℕ) → number r ≡ n → eqb n no_refusal ≡ false
number-is r n e = rw (← e) (number-refuses r)

-- so no condition after it counts
pub number-first : (r : Refusal) (after : ℕ) → first_of (number r) after ≡ number r
number-first r after = rw (number-refuses r)

-- ---- what a check answers, at the exit of a `?`

-- `r` is what the function answers there, and `e` what the check refused
pub refusal-at_exit : {A : Type 0} (e : Refusal) (after : ℕ) {n : ℕ} (r : Result A Refusal) → IsErrAnd r (λ d. d ≡ e) → number e ≡ n → refusal_before r after ≡ n
refusal-at_exit e after r is-e is-n = let p = err_from_is_err_and r is-e in rw (p.1, p.2) is-n
