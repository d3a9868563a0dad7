-- The steps of lives: none makes a call wait, run or end well; how a client's call ends has a cause.
use Rattle.std.proofs.Common.{◌≡◌, ◌⊎◌, ℕ, ℤ, Bool, true, false, Option, Some, None, refl, inl, inr}
use Rattle.rx_model.specs.declared.answers.End.{End}
use Rattle.rx_model.specs.declared.answers.End.TheVariants as ends
use Rattle.rx_model.specs.declared.wire.TheConstants.{RX_CALL_DEAD}
use Rattle.rx_rules.specs.After.{is_ok_end}
use Rattle.rx_rules.specs.Life.{Life, is_waiting, after_code, after_silence, after_later, after_acks, after_gone}
use Rattle.rx_rules.specs.Life as lives
use Rattle.rx_history.specs.Streams.{end_of_life}

-- a handler is at work
abbrev pub is_running : Life → Bool
is_running lives.Accepted = true
is_running _ = false

-- a step of a life in which ends come only by such causes
pub record LifeMove (Cause : End → Type 0) (x y : Life) : Type 0 where
  pub waits : is_waiting y ≡ true → is_waiting x ≡ true
  pub runs : is_running y ≡ true → is_running x ≡ true
  pub fine : is_ok_end y ≡ true → is_ok_end x ≡ true
  pub ends : (end : End) → end_of_life y ≡ Some end → (end_of_life x ≡ Some end) ⊎ Cause end

pub life-stays : (Cause : End → Type 0) (x : Life) → LifeMove Cause x x
life-stays Cause x = record { waits = λ is. is; runs = λ is. is; fine = λ is. is; ends = λ end is. inl is }

pub life-trans : (Cause : End → Type 0) (x y z : Life) → LifeMove Cause x y → LifeMove Cause y z → LifeMove Cause x z
life-trans Cause x y z p q =
    record {
      waits = λ is. p.waits (q.waits is);
      runs = λ is. p.runs (q.runs is);
      fine = λ is. p.fine (q.fine is);
      ends = λ end is. (elim (q.ends end is) as (λ t. (end_of_life x ≡ Some end) ⊎ Cause end) [
        | inl before ↦ p.ends end before
        | inr now ↦ inr now
      ]);
    }

-- it is over, broken, or finished
life-over : (Cause : End → Type 0) (x : Life) (code : Option ℤ) → LifeMove Cause x (lives.Over code)
life-over Cause x code =
    record { waits = λ is. absurd cc; runs = λ is. absurd cc; fine = λ is. absurd cc; ends = λ end is. absurd cc }

life-broken : (Cause : End → Type 0) (x : Life) (code : ℤ) → LifeMove Cause x (lives.Broken code)
life-broken Cause x code =
    record { waits = λ is. absurd cc; runs = λ is. absurd cc; fine = λ is. absurd cc; ends = λ end is. absurd cc }

pub same_end : (a b : End) → Some a ≡ Some b → a ≡ b
same_end a b is = cc

life-aborted : (Cause : End → Type 0) (x : Life) (code : ℤ) → Cause (ends.Abort code)
    → LifeMove Cause x (lives.Ended (ends.Abort code))
life-aborted Cause x code cause =
    record {
      waits = λ is. absurd cc;
      runs = λ is. absurd cc;
      fine = λ is. absurd cc;
      ends = λ end is. inr (subst-cause (ends.Abort code) end (same_end (ends.Abort code) end is) cause);
    }
  where
    subst-cause : (a b : End) → a ≡ b → Cause a → Cause b
    subst-cause a b is c = rw is at c

life-dead : (Cause : End → Type 0) (x : Life) (n : ℕ) → Cause (ends.Dead n)
    → LifeMove Cause x (lives.Ended (ends.Dead n))
life-dead Cause x n cause =
    record {
      waits = λ is. absurd cc;
      runs = λ is. absurd cc;
      fine = λ is. absurd cc;
      ends = λ end is. inr (subst-cause (ends.Dead n) end (same_end (ends.Dead n) end is) cause);
    }
  where
    subst-cause : (a b : End) → a ≡ b → Cause a → Cause b
    subst-cause a b is c = rw is at c

pub code-moves : (Cause : End → Type 0) (code : ℤ) (x : Life) → (x ≡ lives.Calling → Cause (ends.Abort code))
    → LifeMove Cause x (after_code code x)
code-moves Cause code lives.Calling cause = life-aborted Cause lives.Calling code (cause refl)
code-moves Cause code (lives.Ended end) cause = life-stays Cause (lives.Ended end)
code-moves Cause code lives.Waiting cause = life-over Cause lives.Waiting (Some code)
code-moves Cause code lives.Accepted cause = life-broken Cause lives.Accepted code
code-moves Cause code lives.Finished cause = life-over Cause lives.Finished (Some code)
code-moves Cause code (lives.Broken before) cause = life-stays Cause (lives.Broken before)
code-moves Cause code (lives.Over before) cause = life-stays Cause (lives.Over before)

pub silence-moves : (Cause : End → Type 0) (n : ℕ) (x : Life) → Cause (ends.Dead n)
    → LifeMove Cause x (after_silence n x)
silence-moves Cause n lives.Calling cause = life-dead Cause lives.Calling n cause
silence-moves Cause n (lives.Ended end) cause = life-stays Cause (lives.Ended end)
silence-moves Cause n lives.Waiting cause = life-over Cause lives.Waiting (Some RX_CALL_DEAD)
silence-moves Cause n lives.Accepted cause = life-broken Cause lives.Accepted RX_CALL_DEAD
silence-moves Cause n lives.Finished cause = life-over Cause lives.Finished (Some RX_CALL_DEAD)
silence-moves Cause n (lives.Broken before) cause = life-stays Cause (lives.Broken before)
silence-moves Cause n (lives.Over before) cause = life-stays Cause (lives.Over before)

pub later-moves : (Cause : End → Type 0) (x : Life) → LifeMove Cause x (after_later x)
later-moves Cause lives.Waiting = life-over Cause lives.Waiting (Some RX_CALL_DEAD)
later-moves Cause lives.Finished = life-over Cause lives.Finished None
later-moves Cause lives.Calling = life-stays Cause lives.Calling
later-moves Cause (lives.Ended end) = life-stays Cause (lives.Ended end)
later-moves Cause lives.Accepted = life-stays Cause lives.Accepted
later-moves Cause (lives.Broken code) = life-stays Cause (lives.Broken code)
later-moves Cause (lives.Over code) = life-stays Cause (lives.Over code)

pub acks-moves : (Cause : End → Type 0) (all : Bool) (x : Life) → LifeMove Cause x (after_acks all x)
acks-moves Cause true lives.Finished = life-over Cause lives.Finished None
acks-moves Cause false lives.Finished = life-stays Cause lives.Finished
acks-moves Cause all lives.Waiting = life-stays Cause lives.Waiting
acks-moves Cause all lives.Calling = life-stays Cause lives.Calling
acks-moves Cause all (lives.Ended end) = life-stays Cause (lives.Ended end)
acks-moves Cause all lives.Accepted = life-stays Cause lives.Accepted
acks-moves Cause all (lives.Broken code) = life-stays Cause (lives.Broken code)
acks-moves Cause all (lives.Over code) = life-stays Cause (lives.Over code)

pub gone-moves : (Cause : End → Type 0) (x : Life) → LifeMove Cause x (after_gone x)
gone-moves Cause (lives.Broken code) = life-over Cause (lives.Broken code) (Some code)
gone-moves Cause lives.Finished = life-stays Cause lives.Finished
gone-moves Cause lives.Waiting = life-stays Cause lives.Waiting
gone-moves Cause lives.Calling = life-stays Cause lives.Calling
gone-moves Cause (lives.Ended end) = life-stays Cause (lives.Ended end)
gone-moves Cause lives.Accepted = life-stays Cause lives.Accepted
gone-moves Cause (lives.Over code) = life-stays Cause (lives.Over code)
