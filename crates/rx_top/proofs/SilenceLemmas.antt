-- Lemmas on what is told of calls that ended, and on calls that end in silence.
use Rattle.std.proofs.Common.{◌≡◌, ◌⊎◌, ◌≤◌, ℕ, List, [], ◌∷◌, Option, Some, None, Result, Ok, Err}
use Rattle.std.proofs.Common.{IfOk, inl, inr, refl, subst}
use Rattle.rx_asks.specs.View.{CallerState}
use Rattle.rx_asks.specs.declared.ask.TheConstants.{CC_UNMARSHAL}
use Rattle.rx_history.proofs.Client.{Silences}
use Rattle.rx_history.proofs.ClientHistory.{called-turn, client-calls}
use Rattle.rx_history.specs.Streams.{end_at}
use Rattle.rx_model.specs.declared.answers.End.{End}
use Rattle.rx_model.specs.declared.answers.End.TheVariants as ends
use Rattle.rx_model.specs.declared.event.Event.{Event}
use Rattle.rx_model.specs.declared.event.Event.TheVariants as events
use Rattle.rx_model.specs.declared.names.CallName.{CallName}
use Rattle.rx_model.specs.declared.names.Host.{Host}
use Rattle.rx_model.specs.declared.wire.TheConstants.{SILENCE_MS}
use Rattle.rx_wire_loop.specs.declared.calling.CallEnd.{CallEnd}
use Rattle.rx_wire_loop.specs.declared.calling.CallEnd.TheVariants as call_ends
use Rattle.rx_wire_loop.specs.declared.calling.Calling.{Calling}
use Rattle.rx_drive.specs.declared.stop.Stop.{Stop}
use Rattle.rx_drive.specs.declared.stop.Stop.TheVariants as stops
use Rattle.rx_wire_loop.specs.Calls.{CallIs, client_setup}
use Rattle.rx_wire_loop.specs.Tells.{SinkTells, Told}
use Rattle.rx_wire_loop.specs.ToldCalls.{CallTold, CallsTell}
use Rattle.rx_reply.specs.Replies.{Returned, reply_says}
use Rattle.rx_rules.specs.After.{looks}
use Rattle.rx_rules.specs.Classes.{Class}
use Rattle.rx_rules.specs.Looks.{Looks}
use Rattle.rx_rules.specs.Rules.{Legal}
use Rattle.rx_rules.specs.Setup.{Client, FitsSetup, Setup}
use Rattle.rx_token.specs.Chosen.{chosen}
use Rattle.rx_token.specs.TokenLaws.{chosen_fits}
use Rattle.rx_wire.specs.Turns.{after_all}
use Rattle.rx_top.specs.declared.wire_outcome.WireOutcome.{WireOutcome}
use Rattle.rx_top.specs.declared.wire_outcome.WireOutcome.TheVariants as outcomes
use Rattle.rx_top.specs.Calls.{CallAsked, CanCall, EndsByCall, EndsByEnd, EndsBySaid, IsFinished}

silence_long : (l : Looks) (e : Event) (c : CallName) (n : ℕ) → Silences l e c n → SILENCE_MS ≤ n
silence_long l (events.Polled got) c n silent = silent.long
silence_long l _ c n silent = absurd silent

-- a call of a client that ended in silence ended behind one that was long
pub dead_long : (s : Setup) (host : Host) (epoch : ℕ) (h : List Event) (c : CallName) (n : ℕ)
    → s.kind ≡ Client host epoch → FitsSetup s → Legal s h → end_at (looks s h) c ≡ Some (ends.Dead n)
    → SILENCE_MS ≤ n
dead_long s host epoch [] c n kind fits legal is = absurd cc
dead_long s host epoch (e ∷ h) c n kind fits legal is =
    let turn = called-turn s host epoch e h c kind fits legal (client-calls s host epoch h kind fits legal.1) in
    elim (turn.ends tt (ends.Dead n) is) [
      | inl before ↦ dead_long s host epoch h c n kind fits legal.1 before
      | inr silent ↦ silence_long (looks s h) e c n silent
    ]

-- ---- a call over a wire

-- an end that a caller told is its own cancel, or the end of its call
told_dead : (s : Setup) (host : Host) (epoch : ℕ) (h : List Event) (c : CallName) (n : ℕ) → s.kind ≡ Client host epoch
    → FitsSetup s → Legal s h
    → (ends.Dead n ≡ ends.Cancelled CC_UNMARSHAL) ⊎ (end_at (looks s h) c ≡ Some (ends.Dead n)) → SILENCE_MS ≤ n
told_dead s host epoch h c n kind fits legal (inl own) = absurd cc
told_dead s host epoch h c n kind fits legal (inr is) = dead_long s host epoch h c n kind fits legal is

-- of a call that ended, its caller tells by the law
pub ended_told : (w : Calling) (request secret : List ℕ) (result : Result CallEnd Stop) (before after : Told)
    → CallsTell → CanCall w → CallIs w request (chosen secret) result before after → (v : CallerState)
    → result ≡ Ok (call_ends.Ended v) → CallTold w request (chosen secret) v before after
ended_told w request secret result before after law can made v is =
    law w request (chosen secret) v before after can.epoch can.limits (chosen_fits secret)
    (subst (λ (r : Result CallEnd Stop). CallIs w request (chosen secret) r before after) is made)

-- where each call that ended is told by the law, its caller is finished
pub told_finished : (w : Calling) (request : List ℕ) (class : Class) (result : Result CallEnd Stop)
    (before after : Told)
    → ((v : CallerState) → result ≡ Ok (call_ends.Ended v) → CallTold w request class v before after)
    → IfOk result IsFinished
told_finished w request class (Ok (call_ends.Ended v)) before after told = (told v refl).finished
told_finished w request class (Ok call_ends.TurnsSpent) before after told = tt
told_finished w request class (Err stop) before after told = tt

-- a call that is told so, and ended in silence, ended behind one that was long
told_long : (w : Calling) (request secret : List ℕ) (v : CallerState) (before after : Told) (n : ℕ) → CanCall w
    → CallTold w request (chosen secret) v before after → v.end ≡ Some (ends.Dead n) → SILENCE_MS ≤ n
told_long w request secret v before after n can told dead =
    told_dead (client_setup w (chosen secret) told.host) told.host w.epoch (after_all told.events []) v.call n refl
    (record { kind = can.epoch; limits = can.limits; class = chosen_fits secret }) told.legal
    (told.tells.ended (ends.Dead n) dead)

-- ---- how the command ends

said_dead : (a : CallAsked) (said : Option Returned) (before after : SinkTells) (n : ℕ)
    → EndsBySaid a said (outcomes.Dead n) before after → ⊥
said_dead a (Some says) before after n ends = ends
said_dead a None before after n ends = elim ends.0 [ inl is ↦ absurd cc | inr is ↦ absurd cc ]

end_dead : (a : CallAsked) (reply : List ℕ) (end : Option End) (before after : SinkTells) (n : ℕ)
    → EndsByEnd a reply end (outcomes.Dead n) before after → end ≡ Some (ends.Dead n)
end_dead a reply (Some ends.Ok) before after n by =
    absurd (said_dead a (reply_says a.meant.types a.proc a.down reply) before after n by)
end_dead a reply (Some (ends.Abort code)) before after n by = let is = by.0 in absurd cc
end_dead a reply (Some (ends.Dead silence)) before after n by = let is = by.0 in cc
end_dead a reply (Some (ends.Cancelled code)) before after n by = let is = by.0 in absurd cc
end_dead a reply None before after n by = absurd by

module _ (a : CallAsked) (w : Calling) (request secret : List ℕ) where
  -- where `call` says that its call ended in silence, the silence was long
  long_by : (result : Result CallEnd Stop) (before after : Told) (first last : SinkTells) (n : ℕ) → CanCall w
      → ((v : CallerState) → result ≡ Ok (call_ends.Ended v) → CallTold w request (chosen secret) v before after)
      → EndsByCall a w.turns result (outcomes.Dead n) first last → SILENCE_MS ≤ n
  long_by (Ok (call_ends.Ended v)) before after first last n can told by =
      told_long w request secret v before after n can (told v refl) (end_dead a v.reply v.end first last n by)
  long_by (Ok call_ends.TurnsSpent) before after first last n can told by =
      let is = by.0 in absurd cc
  long_by (Err stops.SinkFault) before after first last n can told by = absurd by
  long_by (Err stops.Unformatted) before after first last n can told by = absurd by
  long_by (Err stops.WireFault) before after first last n can told by = let is = by.0 in absurd cc
  long_by (Err stops.OutOfMemory) before after first last n can told by =
      let is = by.0 in absurd cc
  long_by (Err stops.Unnoted) before after first last n can told by =
      let is = by.0 in absurd cc
  long_by (Err stops.Endless) before after first last n can told by =
      let is = by.0 in absurd cc

  -- the same of its outcome
  pub call_long : (result : Result CallEnd Stop) (outcome : WireOutcome) (before after : Told) (first last : SinkTells)
      (n : ℕ)
      → CanCall w
      → ((v : CallerState) → result ≡ Ok (call_ends.Ended v) → CallTold w request (chosen secret) v before after)
      → EndsByCall a w.turns result outcome first last → outcome ≡ outcomes.Dead n → SILENCE_MS ≤ n
  call_long result outcome before after first last n can told by is =
      long_by result before after first last n can told
      (subst (λ (o : WireOutcome). EndsByCall a w.turns result o first last) is by)
