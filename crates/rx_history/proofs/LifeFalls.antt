-- No step of a life brings a call to life, lets it hold slots, or begins it anew.
use Rattle.std.proofs.Common.{◌≡◌, ℕ, ℤ, Bool, true, false, Option, refl}
use Rattle.rx_model.specs.declared.answers.End.{End}
use Rattle.rx_rules.specs.Life.{Life, is_active, is_calling, is_live, is_waiting, after_code, after_silence}
use Rattle.rx_rules.specs.Life.{after_later}
use Rattle.rx_rules.specs.Life.{after_acks, after_accept}
use Rattle.rx_rules.specs.Life.{after_cancel, after_end, after_finish, after_gone}
use Rattle.rx_rules.specs.Life as lives

-- no handler ended yet, and none was told of a code
abbrev pub is_begun : Life → Bool
is_begun lives.Waiting = true
is_begun lives.Accepted = true
is_begun _ = false

-- what the life behind a step has, the one before it had
pub record Falls (x y : Life) : Type 0 where
  pub live : is_live y ≡ true → is_live x ≡ true
  pub active : is_active y ≡ true → is_active x ≡ true
  pub begun : is_begun y ≡ true → is_begun x ≡ true
  pub calling : is_calling y ≡ true → is_calling x ≡ true
  pub waiting : is_waiting y ≡ true → is_waiting x ≡ true

-- it stays
pub falls_refl : (x : Life) → Falls x x
falls_refl x =
    record { live = λ is. is; active = λ is. is; begun = λ is. is; calling = λ is. is; waiting = λ is. is }

falls-over : (x : Life) (code : Option ℤ) → Falls x (lives.Over code)
falls-over x code = record {
  live = λ is. absurd cc;
  active = λ is. absurd cc;
  begun = λ is. absurd
      cc;
  calling = λ is. absurd cc;
  waiting = λ is. absurd cc;
}

falls-ended : (x : Life) (end : End) → Falls x (lives.Ended end)
falls-ended x end = record {
  live = λ is. absurd cc;
  active = λ is. absurd cc;
  begun = λ is. absurd
      cc;
  calling = λ is. absurd cc;
  waiting = λ is. absurd cc;
}

falls-broken : (x : Life) (code : ℤ) → is_live x ≡ true → Falls x (lives.Broken code)
falls-broken x code live = record {
  live = λ is. live;
  active = λ is. absurd cc;
  begun = λ is. absurd
      cc;
  calling = λ is. absurd cc;
  waiting = λ is. absurd cc;
}

-- a code comes
pub code_falls : (code : ℤ) (x : Life) → Falls x (after_code code x)
code_falls code lives.Calling = falls-ended lives.Calling _
code_falls code lives.Waiting = falls-over lives.Waiting _
code_falls code lives.Accepted = falls-broken lives.Accepted _ refl
code_falls code lives.Finished = falls-over lives.Finished _
code_falls code x = falls_refl x

-- nothing is heard
pub silence_falls : (n : ℕ) (x : Life) → Falls x (after_silence n x)
silence_falls n lives.Calling = falls-ended lives.Calling _
silence_falls n lives.Waiting = falls-over lives.Waiting _
silence_falls n lives.Accepted = falls-broken lives.Accepted _ refl
silence_falls n lives.Finished = falls-over lives.Finished _
silence_falls n x = falls_refl x

-- a later call comes
pub later_falls : (x : Life) → Falls x (after_later x)
later_falls lives.Waiting = falls-over lives.Waiting _
later_falls lives.Finished = falls-over lives.Finished _
later_falls x = falls_refl x

-- all may be acknowledged
pub acks_falls : (all : Bool) (x : Life) → Falls x (after_acks all x)
acks_falls true lives.Finished = falls-over lives.Finished _
acks_falls false lives.Finished = falls_refl lives.Finished
acks_falls all x = falls_refl x

-- a handler takes it
pub accept_falls : (x : Life) → Falls x (after_accept x)
accept_falls lives.Waiting = record {
  live = λ is. refl;
  active = λ is. refl;
  begun = λ is. refl;
  calling = λ is. absurd cc;
  waiting = λ is. absurd cc;
}
accept_falls x = falls_refl x

-- a handler ends
pub finish_falls : (fine : Bool) (code : ℤ) (x : Life) → Falls x (after_finish fine code x)
finish_falls true code
    lives.Accepted = record {
      live = λ is. refl;
      active = λ is. refl;
      begun = λ is. refl;
      calling = λ is. absurd cc;
      waiting = λ is. absurd cc;
    }
finish_falls false code lives.Accepted = falls-over lives.Accepted _
finish_falls true code x = falls_refl x
finish_falls false code x = falls_refl x

-- a handler is told
pub gone_falls : (x : Life) → Falls x (after_gone x)
gone_falls (lives.Broken code) = falls-over (lives.Broken code) _
gone_falls x = falls_refl x

-- a read may answer End
pub end_falls : (end : Bool) (x : Life) → Falls x (after_end end x)
end_falls true lives.Calling = falls-ended lives.Calling _
end_falls true x = falls_refl x
end_falls false x = falls_refl x

-- it is given up
pub cancel_falls : (code : ℤ) (x : Life) → Falls x (after_cancel code x)
cancel_falls code lives.Calling = falls-ended lives.Calling _
cancel_falls code x = falls_refl x
