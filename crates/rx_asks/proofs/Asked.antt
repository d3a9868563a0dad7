-- What a caller asks, by cases.
use Rattle.std.proofs.Common.{◌≡◌, if◌then◌else◌, nat_lt, is_some, ℕ, ℤ, Bool, true, false, List, [], ◌∷◌, length}
use Rattle.std.proofs.Common.{take, Option, Some, None, option_map, refl, ◌∙◌, ap, sym}
use Rattle.rx_model.specs.declared.names.CallName.{CallName}
use Rattle.rx_asks.specs.declared.ask.Ask.{Ask}
use Rattle.rx_asks.specs.declared.ask.Ask.TheVariants as asks
use Rattle.rx_asks.specs.declared.ask.Phase.{Phase}
use Rattle.rx_asks.specs.declared.ask.Phase.TheVariants as phases
use Rattle.rx_asks.specs.declared.ask.TheConstants.{BLOCK_BYTES, CC_UNMARSHAL}
use Rattle.rx_asks.specs.Asks.{Asking, Offers, Shuts, Reads, Cancels, asking, calling, next_ask, next_at}
use Rattle.rx_asks.specs.Asks.{next_offering}
use Rattle.rx_asks.specs.View.{CallerState}

-- the call that is asked
pub record AskedBy (limit : ℕ) (v : CallerState) (a : Asking) : Type 0 where
  pub ask : Ask
  pub next : next_ask limit v ≡ Some ask
  pub is : asking v ask ≡ a

-- there is one
pub asked_by : (limit : ℕ) (v : CallerState) (a : Asking) → (calling limit).asks v ≡ Some a → AskedBy limit v a
asked_by limit v a asked = of (next_ask limit v) refl asked
  where
    of : (o : Option Ask) → next_ask limit v ≡ o → option_map (asking v) o ≡ Some a → AskedBy limit v a
    of None is none = absurd cc
    of (Some ask) is some = record { ask = ask; next = is; is = (let same : asking v ask ≡ a = cc (some) in same) }

-- ---- where it isn't finished, and its reply is within the limit

-- what decides the next call
pub record Lasts (limit : ℕ) (v : CallerState) : Type 0 where
  pub open_end : is_some v.end ≡ false
  pub within : nat_lt limit (length v.reply) ≡ false

-- it is the call by where its turn stands
pub next_lasts : (limit : ℕ) (v : CallerState) (ask : Ask) → next_ask limit v ≡ Some ask → (ask ≡ asks.Cancel → ⊥)
    → Lasts limit v × (next_at v.phase v ≡ Some ask)
next_lasts limit v ask next other = of (is_some v.end) (nat_lt limit (length v.reply)) refl refl next
  where
    of : (a b : Bool) → is_some v.end ≡ a → nat_lt limit (length v.reply) ≡ b
        → (if a then None else if b then Some asks.Cancel else next_at v.phase v) ≡ Some ask
        → Lasts limit v × (next_at v.phase v ≡ Some ask)
    of true b end long is = absurd cc
    of false true end long is = absurd (other (let same : asks.Cancel ≡ ask = cc (is) in sym same))
    of false false end long is = (record { open_end = end; within = long }, is)

-- where it asks, it isn't finished
pub asks_unended : (limit : ℕ) (v : CallerState) (a : Asking) → (calling limit).asks v ≡ Some a → is_some v.end ≡ false
asks_unended limit v a asked =
    let by = asked_by limit v a asked in of (is_some v.end) (nat_lt limit (length v.reply)) by.ask by.next
  where
    of : (a b : Bool) (ask : Ask)
        → (if a then None else if b then Some asks.Cancel else next_at v.phase v) ≡ Some ask → a ≡ false
    of true b ask is = absurd cc
    of false b ask is = refl

-- ---- an end of its request

shut-at : (phase : Phase) (v : CallerState) → next_at phase v ≡ Some asks.Shut → v.offering ≡ []
shut-at phases.Reading v is = absurd cc
shut-at phases.Resting v is = absurd cc
shut-at phases.Offering v is = of v.shut v.offering is
  where
    of : (b : Bool) (xs : List ℕ) → Some (next_offering b xs) ≡ Some asks.Shut → xs ≡ []
    of true xs is = absurd cc
    of false [] is = refl
    of false (x ∷ xs) is = absurd cc

-- it ends its request once all of it was accepted
pub shut_all : (limit : ℕ) (v : CallerState) → next_ask limit v ≡ Some asks.Shut → v.offering ≡ []
shut_all limit v next = shut-at v.phase v (next_lasts limit v asks.Shut next (λ is. absurd cc)).1

-- ---- by the call that is asked

-- the call of what is asked
abbrev pub call_in : Asking → CallName
call_in (Offers c bytes) = c
call_in (Shuts c) = c
call_in (Reads c max) = c
call_in (Cancels c code) = c

asking-call : (v : CallerState) (ask : Ask) → call_in (asking v ask) ≡ v.call
asking-call v asks.Offer = refl
asking-call v asks.Shut = refl
asking-call v asks.Read = refl
asking-call v asks.Cancel = refl

-- it asks of its own call
pub asks_own : (limit : ℕ) (v : CallerState) (a : Asking) → (calling limit).asks v ≡ Some a → call_in a ≡ v.call
asks_own limit v a asked =
    let by = asked_by limit v a asked in ap call_in (sym by.is) ∙ asking-call v by.ask

-- it offers the next bytes
pub offers_next : (limit : ℕ) (v : CallerState) (c : CallName) (block : List ℕ)
    → (calling limit).asks v ≡ Some (Offers c block) → block ≡ take BLOCK_BYTES v.offering
offers_next limit v c block asked =
    let by = asked_by limit v (Offers c block) asked in of by.ask by.is
  where
    of : (ask : Ask) → asking v ask ≡ Offers c block → block ≡ take BLOCK_BYTES v.offering
    of asks.Offer is = (let same : take BLOCK_BYTES v.offering ≡ block = cc (is) in sym same)
    of asks.Shut is = absurd cc
    of asks.Read is = absurd cc
    of asks.Cancel is = absurd cc

-- it ends its request where nothing is left to offer
pub shuts_all : (limit : ℕ) (v : CallerState) (c : CallName) → (calling limit).asks v ≡ Some (Shuts c)
    → v.offering ≡ []
shuts_all limit v c asked = let by = asked_by limit v (Shuts c) asked in of by.ask by.next by.is
  where
    of : (ask : Ask) → next_ask limit v ≡ Some ask → asking v ask ≡ Shuts c → v.offering ≡ []
    of asks.Offer next is = absurd cc
    of asks.Shut next is = shut_all limit v next
    of asks.Read next is = absurd cc
    of asks.Cancel next is = absurd cc

-- it gives up with its own code
pub cancels_with : (limit : ℕ) (v : CallerState) (c : CallName) (code : ℤ)
    → (calling limit).asks v ≡ Some (Cancels c code) → code ≡ CC_UNMARSHAL
cancels_with limit v c code asked = let by = asked_by limit v (Cancels c code) asked in of by.ask by.is
  where
    of : (ask : Ask) → asking v ask ≡ Cancels c code → code ≡ CC_UNMARSHAL
    of asks.Offer is = absurd cc
    of asks.Shut is = absurd cc
    of asks.Read is = absurd cc
    of asks.Cancel is = (let same : CC_UNMARSHAL ≡ code = cc (is) in sym same)
