-- What a message that finds a handler at work on its channel leaves there: the channel owes a BUSY of its call, and
-- the handler has its call still.
use Rattle.std.proofs.Common.{◌≡◌, ◌≤◌, cond, ℕ, ℤ, true, Option, Some, option_map, refl, ◌∙◌, ap, sym, subst}
use Rattle.rx_model.specs.declared.answers.Took.TheVariants as tooks
use Rattle.rx_model.specs.declared.names.CallName.{CallName}
use Rattle.rx_model.specs.declared.wire.TheConstants.{RX_CALL_DEAD}
use Rattle.rx_model.specs.Message.{Message}
use Rattle.rx_model.specs.Names.{channel_of, connection_of}
use Rattle.rx_model.proofs.NameLaws.{name_itself}
use Rattle.rx_rules.specs.After.{owing_busy, prepared, taken_with}
use Rattle.rx_rules.specs.Life.{Life, after_code, is_handled}
use Rattle.rx_rules.specs.Life as lives
use Rattle.rx_rules.specs.Looks.{CallRecord, ChannelLooks, Looks, call_at, call_named, channel_at, latest_name, on_life}
use Rattle.rx_rules.specs.Setup.{Setup}
use Rattle.rx_history.proofs.Calls.{call-changed}
use Rattle.rx_history.proofs.Events.{call-by, calls-prepared}
use Rattle.rx_between.proofs.Prepared.{prepared_number}
use Rattle.rx_closing.proofs.Messages.TookOver.{channel_changed}

-- behind it
pub record IsToldBusy (c : CallName) (l : Looks) : Type 0 where
  pub older : CallName
  pub on : channel_of older ≡ channel_of c
  pub call : CallRecord
  pub there : call_at l older ≡ Some call
  pub handled : is_handled call.life ≡ true
  pub owed : (channel_at l (channel_of c)).owed_busy ≡ Some c.number

-- a call that a handler has has one behind a code too
pub code_keeps : (code : ℤ) (x : Life) → is_handled x ≡ true → is_handled (after_code code x) ≡ true
code_keeps code lives.Accepted is = refl
code_keeps code (lives.Broken before) is = refl
code_keeps code _ is = absurd (cc (is))

-- where the channel's latest call is one that a handler has
pub busy_owes : (s : Setup) (l : Looks) (c : CallName) (m : Message) (r : CallRecord)
    → call_at l (latest_name l (channel_of c)) ≡ Some r → is_handled r.life ≡ true
    → 1 ≤ (channel_at l (channel_of c)).number
    → IsToldBusy c (taken_with s tooks.Busy c m (prepared s tooks.Busy (connection_of c) l))
busy_owes s l c m r there handled some =
    record {
      older = d;
      on = refl;
      call = record r { life = after_code RX_CALL_DEAD r.life };
      there =
          call-changed d d change ready (λ j. refl)
          ∙ ap (λ b. cond b (option_map change (call_at ready d)) (call_at ready d)) (name_itself d)
          ∙ ap (λ (o : Option CallRecord). option_map change o)
          (call-by d l ready (calls-prepared s tooks.Busy (connection_of c) l)
          ∙ ap (λ (n : ℕ). call_at l (call_named (channel_of c) n))
          (prepared_number s tooks.Busy l (channel_of c)) ∙ there);
      handled = code_keeps RX_CALL_DEAD r.life handled;
      owed =
          ap (λ (q : ChannelLooks). q.owed_busy)
          (channel_changed (on_life d (after_code RX_CALL_DEAD) ready) (channel_of c) (owing_busy c.number)
          (subst (λ (n : ℕ). 1 ≤ n) (sym (prepared_number s tooks.Busy l (channel_of c))) some));
    }
  where
    ready : Looks
    ready = prepared s tooks.Busy (connection_of c) l

    d : CallName
    d = latest_name ready (channel_of c)

    change : CallRecord → CallRecord
    change j = record j { life = after_code RX_CALL_DEAD j.life }
