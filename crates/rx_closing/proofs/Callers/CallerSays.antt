-- The turn of a caller: it offers its request while there is room, shuts behind the last byte, and reads.
use Rattle.std.proofs.Common.{◌≡◌, ◌≤◌, ◌<◌, ◌++◌, ℕ, suc, zero, min, not, Bool, true, false, List, [], ◌∷◌, refl, ap}
use Rattle.std.proofs.Common.{sym, subst, ◌∙◌, Ok, length, take, drop, arith, append-nil, append_assoc, length-take}
use Rattle.std.proofs.Common.{length-drop, nat_lt, cond}
use Rattle.std.proofs.lemmas.Bool.{ltb-true, ltb-false}
use Rattle.rx_model.specs.declared.answers.WroteGot.TheVariants as writers
use Rattle.rx_model.specs.declared.event.Event.{Event}
use Rattle.rx_model.specs.declared.event.Event.TheVariants as events
use Rattle.rx_model.specs.declared.names.CallName.{CallName}
use Rattle.rx_model.specs.declared.names.Host.{Host}
use Rattle.rx_rules.specs.After.{looks}
use Rattle.rx_rules.specs.CallLooks.{CallLooks, after_shut, after_write}
use Rattle.rx_rules.specs.Looks.{CallRecord, Looks}
use Rattle.rx_rules.specs.Received.{unread_of}
use Rattle.rx_rules.specs.Setup.{Client}
use Rattle.rx_history.specs.Sides.{Node, side}
use Rattle.rx_asks.specs.declared.ask.Phase.{Phase}
use Rattle.rx_asks.specs.declared.ask.Phase.TheVariants as phases
use Rattle.rx_asks.specs.declared.ask.TheConstants.{REPLY_BYTES}
use Rattle.rx_asks.specs.Asks.{Offers, Shuts, calling}
use Rattle.rx_asks.specs.View.{CallerState}
use Rattle.rx_plan.specs.Parts.{To}
use Rattle.rx_plan.specs.Programs.{Turn}
use Rattle.rx_plan.specs.Stages.{Stage, with_event}
use Rattle.rx_asks.proofs.CallerEvents.{offer_is, own_change, own_is, shut_is, taken_of}
use Rattle.rx_closing.proofs.Callers.CallerReads.{begins, gives_up, goes_on, reads_out}
use Rattle.rx_closing.proofs.Callers.CallerTurn.{At, CallerLeft, Goes, Next, all_said, caller_on, calls, event_at}
use Rattle.rx_closing.proofs.Callers.CallerTurn.{fills_up, looks_behind, next_is}
use Rattle.rx_closing.proofs.Ends.TurnLaws.{turn_trans}
use Rattle.rx_closing.proofs.Steps.{TurnsOn, turns_none, turns_shut, turns_write}
use Rattle.rx_asks.proofs.Telling.{first-of}

-- ---- bytes that were accepted

module _ (node : ℕ) (client : Node) (host : Host) (epoch : ℕ) (kind : client.setup.kind ≡ Client host epoch)
    (c : CallName) (cs : List CallName) (now : ℕ) (request : List ℕ) (k0 : CallLooks) (name : CallName)
    (w : CallerState) (t : Stage) where
  abbrev looks_on : Stage → Looks
  looks_on s = looks client.setup (side node s.history)

  abbrev There : Stage → CallRecord → Type 0
  There s r = At node client host epoch kind c cs now s r

  abbrev Goes_ : CallerState → Stage → CallerState → Stage → Type 0
  Goes_ v s u q = Goes node client host epoch kind c cs now v s u q

  abbrev on_call : List ℕ → Bool → List ℕ → Phase → CallerState
  on_call offering shut reply phase =
      caller_on node client host epoch kind c cs now offering shut reply phase

  abbrev Left : Type 0
  Left = CallerLeft node client host epoch kind c cs now request k0 t

  -- ---- it offers

  -- all was accepted: it shuts
  shuts : (k : CallLooks) (reply : List ℕ) (s : Stage) → nat_lt REPLY_BYTES (length reply) ≡ false
      → k.sent.shut ≡ false → k.sent.said ++ [] ≡ request → TurnsOn now k0 k → There s (calls name k)
      → Goes_ (on_call [] false reply phases.Offering) s w t → Left
  shuts k reply s few open_ said on at go =
      let e : Event = events.Shut c (Ok tt) in
      let own = own_is client.setup (side node s.history) c (calls name k) at.legal at.there refl in
      let n = next_is node client host epoch kind c cs now (Shuts c) (on_call [] false reply phases.Offering) w s t e
      (rw few refl) at.first
      (λ f is allowed.
      shut_is client.setup host epoch c (looks_on s) (calls name k) own f (ap not open_) is allowed) go in
      let f : CallLooks = after_shut k in
      let behind : There (with_event node e s) (calls name f) =
      event_at node client host epoch kind c cs now s (calls name k) (calls name f) (Shuts c) e at n.asked n.allowed
      (own_change c (λ i. record i { looks = after_shut i.looks }) (looks_on s) (calls name k) (λ i. refl) at.there) in
      reads_out node client host epoch kind c cs now request k0 name w t (length (unread_of f.received)) f [] true
      reply phases.Offering (with_event node e s) (omega arith)
      begins (all_said refl (sym (append-nil k.sent.said) ∙ said))
      (turn_trans now k0 k f on (turns_shut k f (turns_none f))) behind n.goes

  -- it says what it has left, while all that it offers is accepted; the fuel is the length of that
  says_out : (fuel : ℕ) (k : CallLooks) (offering reply : List ℕ) (s : Stage) → length offering ≤ fuel
      → nat_lt REPLY_BYTES (length reply) ≡ false → k.sent.shut ≡ false → k.received ≡ k0.received
      → k.sent.said ++ offering ≡ request → TurnsOn now k0 k → There s (calls name k)
      → Goes_ (on_call offering false reply phases.Offering) s w t → Left
  says_out fuel k [] reply s short few open_ same said on at go = shuts k reply s few open_ said on at go
  says_out zero k (x ∷ xs) reply s short few open_ same said on at go = absurd (omega arith)
  says_out (suc fuel) k (x ∷ xs) reply s short few open_ same said on at go =
      by (λ k2 rest s2 short2 open2 same2 said2 on2 at2 go2.
      says_out fuel k2 rest reply s2 short2 few open2 same2 said2 on2 at2 go2)
      (nat_lt (length bytes) (length block)) refl
    where
      offering : List ℕ
      offering = x ∷ xs

      block : List ℕ
      block = take 4096 offering

      count : ℕ
      count = taken_of client.setup host epoch c (looks_on s) (calls name k)
          (own_is client.setup (side node s.history) c (calls name k) at.legal at.there refl) block

      bytes : List ℕ
      bytes = take count block

      e : Event
      e = events.Wrote c (length block) (writers.Client (Ok count)) bytes

      f : CallLooks
      f = after_write bytes k

      v : CallerState
      v = on_call offering false reply phases.Offering

      next_one : Next node client host epoch kind c cs now (Offers c block) v w s t e
      next_one =
          next_is node client host epoch kind c cs now (Offers c block) v w s t e (rw few refl) at.first
          (λ g is allowed.
          offer_is client.setup host epoch c (looks_on s) (calls name k)
          (own_is client.setup (side node s.history) c (calls name k) at.legal at.there refl) block g (ap not open_) is
          allowed) go

      behind : There (with_event node e s) (calls name f)
      behind =
          event_at node client host epoch kind c cs now s (calls name k) (calls name f) (Offers c block) e at
          next_one.asked next_one.allowed
          (own_change c (λ i. record i { looks = after_write bytes i.looks }) (looks_on s) (calls name k) (λ i. refl)
          at.there)

      turned : TurnsOn now k0 f
      turned = turn_trans now k0 k f on (turns_write k f bytes (turns_none f))

      offered : length block ≡ min 4096 (length offering)
      offered = length-take 4096 offering

      taken : length bytes ≡ min count (length block)
      taken = length-take count block

      rest : List ℕ
      rest = drop (length bytes) offering

      all : f.sent.said ++ rest ≡ request
      all =
          append_assoc k.sent.said bytes rest
          ∙ ap (λ (ys : List ℕ). k.sent.said ++ ys) (first-of count 4096 offering) ∙ said

      Again : Type 0
      Again = (k2 : CallLooks) (rest2 : List ℕ) (s2 : Stage) → length rest2 ≤ fuel → k2.sent.shut ≡ false
          → k2.received ≡ k0.received → k2.sent.said ++ rest2 ≡ request → TurnsOn now k0 k2 → There s2 (calls name k2)
          → Goes_ (on_call rest2 false reply phases.Offering) s2 w t → Left

      by : Again → (b : Bool) → nat_lt (length bytes) (length block) ≡ b → Left
      by again true part =
          let less : length bytes < length block = ltb-true (length bytes) (length block) part in
          let on_go : Goes_ (on_call rest false reply phases.Reading) (with_event node e s) w t = (
            next_one.goes.0,
            subst (λ (b : Bool). Turn (calling REPLY_BYTES) node
                (on_call rest false reply (cond b phases.Reading phases.Offering)) (with_event node e s)
                next_one.goes.0 (To (w, t))) part next_one.goes.1,
          ) in
          reads_out node client host epoch kind c cs now request k0 name w t (length (unread_of f.received)) f
          rest false reply phases.Reading (with_event node e s)
          (omega arith) (goes_on false)
          (fills_up (record {
            name = name;
            stage = s;
            before = k;
            took = bytes;
            at = at;
            behind = with_event node e s;
            at_behind = behind;
            looks_are = looks_behind node client host epoch kind c cs now s e;
            on = on;
            same = same;
            open_ = open_;
            all = omega (arith, less, taken);
            is = refl;
            left = rest;
            some = omega (arith, less, offered, length-drop (length bytes) offering);
            whole = all;
          })) turned behind on_go
      by again false full =
          let more : length block ≤ length bytes = ltb-false (length bytes) (length block) full in
          let on_go : Goes_ (on_call rest false reply phases.Offering) (with_event node e s) w t = (
            next_one.goes.0,
            subst (λ (b : Bool). Turn (calling REPLY_BYTES) node
                (on_call rest false reply (cond b phases.Reading phases.Offering)) (with_event node e s)
                next_one.goes.0 (To (w, t))) full next_one.goes.1,
          ) in
          again f rest (with_event node e s) (omega (arith, short, more, offered, length-drop (length bytes) offering))
          open_ same all turned behind on_go

  -- ---- its whole turn

  -- a caller that shut, or didn't: it is at the beginning of its turn
  pub turns_own : (offering : List ℕ) (shut : Bool) (reply : List ℕ) (s : Stage) → shut ≡ k0.sent.shut
      → (shut ≡ true → offering ≡ []) → k0.sent.said ++ offering ≡ request → There s (calls name k0)
      → Goes_ (on_call offering shut reply phases.Offering) s w t → Left
  turns_own offering true reply s is none said at go =
      reads_out node client host epoch kind c cs now request k0 name w t (length (unread_of k0.received)) k0
      offering true reply phases.Offering s (omega arith) begins
      (all_said (sym is)
      (sym (append-nil k0.sent.said) ∙ ap (λ (ys : List ℕ). k0.sent.said ++ ys) (sym (none refl)) ∙ said))
      (turns_none k0) at go
  turns_own offering false reply s is none said at go = by (nat_lt REPLY_BYTES (length reply)) refl
    where
      by : (b : Bool) → nat_lt REPLY_BYTES (length reply) ≡ b → Left
      by true long =
          gives_up node client host epoch kind c cs now request k0 name w t k0 offering false reply
          phases.Offering s long (turns_none k0) at go
      by false few =
          says_out (length offering) k0 offering reply s (omega arith) few (sym is) refl said (turns_none k0) at go
