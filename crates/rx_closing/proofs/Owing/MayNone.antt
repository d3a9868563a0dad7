-- A node that owes nothing beside what calls give owes only what it may; and one whose channels owe none of what they
-- may owes nothing.
use Rattle.std.proofs.Common.{◌≡◌, ℕ, ℤ, Bool, true, false, List, [], Option, Some, None, refl, ap, sym, ◌∙◌, is_some}
use Rattle.std.specs.Prelude.{option_and_then, slice_get, unwrap_or}
use Rattle.rx_model.specs.declared.event.Event.{Event}
use Rattle.rx_model.specs.declared.names.CallName.{CallName}
use Rattle.rx_model.specs.Names.{Channel, channel_of}
use Rattle.rx_rules.specs.After.{looks}
use Rattle.rx_rules.specs.Looks.{ChannelLooks, ConnLooks, Looks, call_named, channel_at, fresh_channel}
use Rattle.rx_rules.specs.Rules.{Legal}
use Rattle.rx_rules.specs.Setup.{Setup}
use Rattle.rx_rules.proofs.EveryLaws.{Every}
use Rattle.rx_history.proofs.Order.OrderlyHistory.{orderly_history}
use Rattle.rx_plan.proofs.ChannelsHold.{Channels}
use Rattle.rx_between.proofs.Each.EachItem.{In}
use Rattle.rx_closing.proofs.Owing.MayOwe.{EachMay, MayOwe, Sits}
use Rattle.rx_closing.proofs.Owing.OutOwesNone.{conn_found, every_nth}
use Rattle.rx_closing.proofs.Owing.OwesNone.{IsQuiet, OwesNone}
use Rattle.rx_closing.proofs.Rounds.RoundEvents.{every_at as in_every, every_weaker, nth_every}
use Rattle.rx_closing.proofs.Living.InLists.{in_every as every_in}

-- ---- what is owed

module _ (A K : CallName → Type 0) where
  quiet_may : (ch : Channel) (q : ChannelLooks) → IsQuiet q → MayOwe A K ch q
  quiet_may ch q quiet =
      record {
        abort = λ code is. absurd (let no : ◌≡◌ {A = Option ℤ} None (Some code) = sym quiet.abort ∙ is in cc);
        ackall = λ is. absurd (let no : false ≡ true = sym quiet.ackall ∙ is in cc);
        busy = quiet.busy;
        challenge = quiet.challenge;
        response = quiet.response;
      }

  -- where nothing is owed
  pub none_may : (l : Looks) → OwesNone l → EachMay A K l
  none_may l o =
      every_weaker (λ (r : ConnLooks). Every IsQuiet r.channels) (Channels (Sits A K))
      (λ r here n q there.
      quiet_may (record { connection = r.connection; chan = n }) q (nth_every IsQuiet r.channels n q there here))
      l.conns o.channels

  module _ (s : Setup) (h : List Event) (legal : Legal s h)
      (no_abort : (d : CallName) → A d → (channel_at (looks s h) (channel_of d)).number ≡ d.number
      → is_some (channel_at (looks s h) (channel_of d)).owed_abort ≡ true → ⊥)
      (no_ackall : (d : CallName) → K d → (channel_at (looks s h) (channel_of d)).number ≡ d.number
      → (channel_at (looks s h) (channel_of d)).owed_ackall ≡ true → ⊥) where
    abbrev l : Looks
    l = looks s h

    quiet_at : (ch : Channel) (q : ChannelLooks) → channel_at l ch ≡ q → MayOwe A K ch q → IsQuiet q
    quiet_at ch q is may =
        record {
          abort = abort q.owed_abort refl;
          busy = may.busy;
          ackall = ackall q.owed_ackall refl;
          challenge = may.challenge;
          response = may.response;
        }
      where
        number : (channel_at l ch).number ≡ q.number
        number = ap (λ (p : ChannelLooks). p.number) is

        abort : (o : Option ℤ) → q.owed_abort ≡ o → o ≡ None
        abort None same = refl
        abort (Some code) same =
            absurd (no_abort (call_named ch q.number) (may.abort code same) number
            (ap (λ (p : ChannelLooks). is_some p.owed_abort) is ∙ ap is_some same))

        ackall : (b : Bool) → q.owed_ackall ≡ b → b ≡ false
        ackall false same = refl
        ackall true same =
            absurd (no_ackall (call_named ch q.number) (may.ackall same) number
            (ap (λ (p : ChannelLooks). p.owed_ackall) is ∙ same))

    -- where nothing of what may be owed is owed, nothing is
    pub may_none : l.strays ≡ [] → EachMay A K l → OwesNone l
    may_none strays all =
        record {
          strays = strays;
          channels = every_in (λ (r : ConnLooks). Every IsQuiet r.channels) l.conns each_conn;
        }
      where
        each_conn : (r : ConnLooks) → In r l.conns → Every IsQuiet r.channels
        each_conn r there =
            every_nth IsQuiet r.channels (λ n q is.
            quiet_at (record { connection = r.connection; chan = n }) q (here n q is)
            (in_every (Channels (Sits A K)) l.conns r there all n q is))
          where
            here : (n : ℕ) (q : ChannelLooks) → slice_get r.channels n ≡ Some q
                → channel_at l (record { connection = r.connection; chan = n }) ≡ q
            here n q is =
                ap (λ (x : Option ConnLooks). unwrap_or (option_and_then (λ (p : ConnLooks). slice_get p.channels n) x)
                (fresh_channel 0)) (conn_found l.conns r (orderly_history s h legal).conns.differ there)
                ∙ ap (λ (x : Option ChannelLooks). unwrap_or x (fresh_channel 0)) is
