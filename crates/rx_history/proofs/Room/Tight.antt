-- What a call keeps so that its slots suffice, and the changes that take no slot.
use Rattle.std.proofs.Common.{◌≡◌, ◌≤◌, ◌+◌, ℕ, cond, if◌then◌else◌, Bool, true, false, [], refl}
use Rattle.std.proofs.Common.{subst, sym, arith}
use Rattle.rx_model.specs.declared.answers.Took.{Took}
use Rattle.rx_model.specs.declared.answers.Took.TheVariants as tooks
use Rattle.rx_model.specs.Message.{Message}
use Rattle.rx_rules.specs.CallLooks.{CallLooks, NodeView, after_ack_given, after_piece, after_taken}
use Rattle.rx_rules.specs.Life.{Life, is_active, is_calling}
use Rattle.rx_rules.specs.Looks.{CallRecord}
use Rattle.rx_rules.specs.Received.{Received}
use Rattle.rx_rules.specs.Slots.{beside}
use Rattle.rx_history.proofs.Calls.{body-ends}
use Rattle.rx_history.proofs.Ends.{Ends, ends_in}
use Rattle.rx_history.proofs.Given.HeldLaws.{beside_of, beside_taken}
use Rattle.rx_history.proofs.LifeFalls.{Falls, is_begun}
use Rattle.rx_history.proofs.Takes.{chunk-ends}
use Rattle.rx_history.proofs.Laws.WholeLaws.{Whole}

-- what was received, of the ends of a call
abbrev pub received_in : Ends → Received
received_in x = record { kept = x.kept; read = x.read; ended = x.ended; previous = 0 }

-- where it holds slots, a stream that was read to its end has all its packets done with; a client keeps nothing before
-- its own stream is shut; a server's call that waits or is accepted isn't shut; a server calls nobody
pub record Tight (client : Bool) (life : Life) (x : Ends) : Type 0 where
  pub whole : is_active life ≡ true → x.ended ≡ true → Whole (received_in x)
  pub first : client ≡ true → x.shut ≡ false → x.kept ≡ []
  pub unshut : client ≡ false → is_begun life ≡ true → x.shut ≡ false
  pub served : client ≡ false → is_calling life ≡ false

-- of a call
abbrev pub TightOf : Bool → CallRecord → Type 0
TightOf client k = Tight client k.life (ends_in k.looks)

-- a change that takes no slot
pub record Gives (client : Bool) (a b : CallRecord) : Type 0 where
  pub name : b.name ≡ a.name
  pub less : beside b ≤ beside a
  pub tight : TightOf client a → TightOf client b

-- nothing changes
pub gives_refl : (client : Bool) (k : CallRecord) → Gives client k k
gives_refl client k = record { name = refl; less = omega arith; tight = λ t. t }

-- a change that a test allows
pub gives_if : (client test : Bool) (k j : CallRecord) → Gives client k j → Gives client k (cond test j k)
gives_if client true k j gives = gives
gives_if client false k j gives = gives_refl client k

-- ---- a life

less-active : (old new : Bool) (n : ℕ) → (new ≡ true → old ≡ true) → (if new then n else 0) ≤ (if old then n else 0)
less-active old false n falls = omega arith
less-active true true n falls = omega arith
less-active false true n falls = absurd (let is = falls refl in cc (is))

not-calling : (new old : Bool) → (new ≡ true → old ≡ true) → old ≡ false → new ≡ false
not-calling true old falls none = absurd (let is = falls refl in cc (is, none))
not-calling false old falls none = refl

-- a life falls
pub gives_life : (client : Bool) (k : CallRecord) (life : Life) → Falls k.life life
    → Gives client k (record k { life = life })
gives_life client k life falls =
    record {
      name = refl;
      less = less-active (is_active k.life) (is_active life) (beside_of k.looks) falls.active;
      tight = λ t. record {
        whole = λ live ended. t.whole (falls.active live) ended;
        first = t.first;
        unshut = λ server begun. t.unshut server (falls.begun begun);
        served = λ server. not-calling (is_calling life) (is_calling k.life) falls.calling (t.served server);
      };
    }

-- ---- what passed at an end

-- at most so many more are held
pub more_looks : (k : CallRecord) (b : CallLooks) (left : ℕ) → beside_of b ≤ beside_of k.looks + left
    → beside (record k { looks = b }) ≤ beside k + left
more_looks k b left low = of (is_active k.life)
  where
    of : (live : Bool) → (if live then beside_of b else 0) ≤ (if live then beside_of k.looks else 0) + left
    of true = low
    of false = omega arith

less_looks : (k : CallRecord) (b : CallLooks) → beside_of b ≤ beside_of k.looks
    → beside (record k { looks = b }) ≤ beside k
less_looks k b low = of (is_active k.life)
  where
    of : (live : Bool) → (if live then beside_of b else 0) ≤ (if live then beside_of k.looks else 0)
    of true = low
    of false = omega arith

-- where its streams stay
pub gives_looks : (client : Bool) (k : CallRecord) (b : CallLooks) → beside_of b ≤ beside_of k.looks
    → ends_in b ≡ ends_in k.looks
    → Gives client k (record k { looks = b })
gives_looks client k b low same =
    record {
      name = refl;
      less = less_looks k b low;
      tight = λ t. subst (λ (x : Ends). Tight client k.life x) (sym same) t;
    }

taken-ends : (v : NodeView) (got : Took) (m : Message) (k : CallLooks) → (got ≡ tooks.Kept → ⊥)
    → ends_in (after_taken v got m k) ≡ ends_in k
taken-ends v tooks.Kept m k other = absurd (other refl)
taken-ends v tooks.Repeat m k other = (chunk-ends v m m.body k).0
taken-ends v tooks.Beyond m k other = (chunk-ends v m m.body k).1
taken-ends v tooks.Clash m k other = (chunk-ends v m m.body k).2
taken-ends v tooks.NoSlot m k other = (chunk-ends v m m.body k).3
taken-ends v tooks.Heard m k other = body-ends v.now m m.body k
taken-ends v _ m k other = refl

-- a message comes, and brings no packet that is kept
pub gives_taken : (client : Bool) (v : NodeView) (got : Took) (m : Message) (k : CallRecord) → (got ≡ tooks.Kept → ⊥)
    → Gives client k (record k { looks = after_taken v got m k.looks })
gives_taken client v got m k other =
    gives_looks client k (after_taken v got m k.looks) (beside_taken v got m k.looks other)
    (taken-ends v got m k.looks other)

-- a piece is given
pub gives_piece : (client : Bool) (now seq : ℕ) (k : CallRecord)
    → Gives client k (record k { looks = after_piece now seq k.looks })
gives_piece client now seq k =
    record {
      name = refl;
      less = omega arith;
      tight = λ t. record { whole = t.whole; first = t.first; unshut = t.unshut; served = t.served };
    }

-- an acknowledgement is given
pub gives_ack : (client : Bool) (now : ℕ) (k : CallRecord)
    → Gives client k (record k { looks = after_ack_given now k.looks })
gives_ack client now k = record { name = refl; less = omega arith; tight = λ t. t }
