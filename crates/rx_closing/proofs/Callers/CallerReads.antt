-- The reads of a caller's turn: it reads all that stands without a gap, to the end of the reply or until more is to
-- come; or it gives its call up.
use Rattle.std.proofs.Common.{◌≡◌, ◌≤◌, ◌-◌, ◌++◌, ℕ, suc, zero, min, Bool, true, false, List, [], ◌∷◌, refl, ap, sym}
use Rattle.std.proofs.Common.{subst, ◌∙◌, Some, Ok, length, take, drop, arith, append-nil, length-drop}
use Rattle.std.proofs.Common.{nat_lt}
use Rattle.rx_model.specs.declared.answers.CallRead.{CallRead}
use Rattle.rx_model.specs.declared.answers.CallRead.TheVariants as callreads
use Rattle.rx_model.specs.declared.answers.End.TheVariants as ends
use Rattle.rx_model.specs.declared.answers.ReadAns.{ReadAns}
use Rattle.rx_model.specs.declared.answers.ReadGot.TheVariants as readers
use Rattle.rx_model.specs.declared.event.Event.{Event}
use Rattle.rx_model.specs.declared.event.Event.TheVariants as events
use Rattle.rx_model.specs.declared.names.CallName.{CallName}
use Rattle.rx_model.specs.declared.names.Host.{Host}
use Rattle.rx_rules.specs.After.{is_end, looks}
use Rattle.rx_rules.specs.CallLooks.{CallLooks, after_read}
use Rattle.rx_rules.specs.Life.{after_cancel, after_end}
use Rattle.rx_rules.specs.Life as lives
use Rattle.rx_rules.specs.Looks.{CallRecord, Looks}
use Rattle.rx_rules.specs.Received.{is_complete, read_from, read_of, unread_of}
use Rattle.rx_rules.specs.Rules.{client_read_got}
use Rattle.rx_rules.specs.Sent.{Sent}
use Rattle.rx_rules.specs.Setup.{Client}
use Rattle.rx_history.specs.Sides.{Node, side}
use Rattle.rx_asks.specs.declared.ask.Phase.{Phase}
use Rattle.rx_asks.specs.declared.ask.Phase.TheVariants as phases
use Rattle.rx_asks.specs.declared.ask.TheConstants.{CC_UNMARSHAL, REPLY_BYTES}
use Rattle.rx_asks.specs.Asks.{Cancels, Reads, calling}
use Rattle.rx_asks.specs.View.{CallerState}
use Rattle.rx_plan.specs.Stages.{Stage, with_event}
use Rattle.rx_rounds.proofs.Making.{turn_over}
use Rattle.rx_asks.proofs.CallerEvents.{cancel_is, own_change, own_is, own_read, read_is}
use Rattle.rx_closing.proofs.Callers.CallerTurn.{At, CallerLeft, Goes, SaidOut, caller_on, calls, ended, ended_now}
use Rattle.rx_closing.proofs.Callers.CallerTurn.{event_at, next_is, reads_on}
use Rattle.rx_closing.proofs.Ends.TurnLaws.{turn_trans}
use Rattle.rx_closing.proofs.Server.OwnReads.{unread_same}
use Rattle.rx_closing.proofs.Steps.{TurnsOn, turns_none, turns_read}
use Rattle.rx_rounds.proofs.Reading.ReadsOut.{unread_behind}

-- ---- what is left to read

none_to_read : (u : List ℕ) → length u ≤ 0 → u ≡ []
none_to_read [] few = refl
none_to_read (b ∷ bs) few = absurd (omega arith)

module _ (node : ℕ) (client : Node) (host : Host) (epoch : ℕ) (kind : client.setup.kind ≡ Client host epoch)
    (c : CallName) (cs : List CallName) (now : ℕ) (request : List ℕ) (k0 : CallLooks) (name : CallName)
    (w : CallerState) (t : Stage) where
  abbrev looks_on : Stage → Looks
  looks_on s = looks client.setup (side node s.history)

  abbrev There : Stage → CallRecord → Type 0
  There s r = At node client host epoch kind c cs now s r

  abbrev Goes_ : CallerState → Stage → CallerState → Stage → Type 0
  Goes_ v s u q = Goes node client host epoch kind c cs now v s u q

  abbrev on_call : List ℕ → Bool → List ℕ → Phase → CallerState
  on_call offering shut reply phase =
      caller_on node client host epoch kind c cs now offering shut reply phase

  abbrev Said : Sent → Type 0
  Said sent = SaidOut node client host epoch kind c cs now request k0 sent

  abbrev Left : Type 0
  Left = CallerLeft node client host epoch kind c cs now request k0 t

  -- it gives its call up, where its reply passes what it keeps
  pub gives_up : (k : CallLooks) (offering : List ℕ) (shut : Bool) (reply : List ℕ) (phase : Phase) (s : Stage)
      → nat_lt REPLY_BYTES (length reply) ≡ true → TurnsOn now k0 k → There s (calls name k)
      → Goes_ (on_call offering shut reply phase) s w t → Left
  gives_up k offering shut reply phase s long on at go =
      let v : CallerState = on_call offering shut reply phase in
      let e : Event = events.Cancelled c CC_UNMARSHAL (Ok tt) in
      let own = own_is client.setup (side node s.history) c (calls name k) at.legal at.there refl in
      let n = next_is node client host epoch kind c cs now (Cancels c CC_UNMARSHAL) v w s t e (rw long refl) at.first
      (λ f is allowed.
      cancel_is client.setup host epoch c (looks_on s) (calls name k) own CC_UNMARSHAL f refl is allowed) go in
      let behind : There (with_event node e s) (ended name (ends.Cancelled CC_UNMARSHAL) k) =
      event_at node client host epoch kind c cs now s (calls name k) (ended name (ends.Cancelled CC_UNMARSHAL) k)
      (Cancels c CC_UNMARSHAL) e at n.asked
      n.allowed
      (own_change c (λ i. record i { life = after_cancel CC_UNMARSHAL i.life }) (looks_on s) (calls name k) (λ i. refl)
      at.there) in
      let over = turn_over (calling REPLY_BYTES) node ((calling REPLY_BYTES).heard v e) w (with_event node e s) t
      n.goes.0 refl n.goes.1 in
      ended_now name k (ends.Cancelled CC_UNMARSHAL)
      (subst (λ (u : Stage). There u (ended name (ends.Cancelled CC_UNMARSHAL) k)) (sym over.1) behind) on

  -- ---- it reads

  -- where it reads
  pub data Reading_ : Phase → Bool → Type 0 where
    begins : Reading_ phases.Offering true
    goes_on : (shut : Bool) → Reading_ phases.Reading shut

  asks_read : (offering : List ℕ) (shut : Bool) (reply : List ℕ) (phase : Phase) → Reading_ phase shut
      → nat_lt REPLY_BYTES (length reply) ≡ false
      → (calling REPLY_BYTES).asks (on_call offering shut reply phase) ≡ Some (Reads c 4096)
  asks_read offering shut reply phase begins few = rw few refl
  asks_read offering shut reply phase (goes_on b) few = rw few refl

  -- one read
  record OneRead (k : CallLooks) (v : CallerState) (s : Stage) (got : ReadAns) (came : List ℕ) : Type 0 where
    at : There (with_event node (events.HasRead c 4096 (readers.Client got) came) s) (record {
      name = name;
      life = after_end (is_end (readers.Client got)) lives.Calling;
      looks = after_read now (is_end (readers.Client got)) came k;
    })
    goes :
        Goes_ ((calling REPLY_BYTES).heard v (events.HasRead c 4096 (readers.Client got) came))
        (with_event node (events.HasRead c 4096 (readers.Client got) came) s) w t

  read_once : (k : CallLooks) (v : CallerState) (s : Stage) (answer : CallRead) (came : List ℕ)
      → read_of k.received 4096 ≡ (answer, came) → (calling REPLY_BYTES).asks v ≡ Some (Reads c 4096)
      → There s (calls name k) → Goes_ v s w t → OneRead k v s (client_read_got answer) came
  read_once k v s answer came is asked at go =
      let got : ReadAns = client_read_got answer in
      let end : Bool = is_end (readers.Client got) in
      let e : Event = events.HasRead c 4096 (readers.Client got) came in
      let own = own_is client.setup (side node s.history) c (calls name k) at.legal at.there refl in
      let n = next_is node client host epoch kind c cs now (Reads c 4096) v w s t e asked at.first
      (λ f is_asked allowed.
      read_is client.setup host epoch c (looks_on s) (calls name k) own 4096 f is_asked allowed
      ∙ ap (λ (p : CallRead × List ℕ). events.HasRead c 4096 (readers.Client (client_read_got p.0)) p.1) is) go in
      let q : ℕ → CallRecord =
      λ moment. record { name = name; life = after_end end lives.Calling; looks = after_read moment end came k } in
      record {
        at =
            event_at node client host epoch kind c cs now s (calls name k) (q now) (Reads c 4096) e at n.asked n.allowed
            (own_read c end came (looks_on s) (calls name k) at.there
            ∙ ap (λ (m : ℕ). Some (q m)) at.moment);
        goes = n.goes;
      }

  -- nothing is there to read
  reads_nothing : (k : CallLooks) (offering : List ℕ) (shut : Bool) (reply : List ℕ) (phase : Phase) (s : Stage)
      (whole : Bool) → unread_of k.received ≡ [] → is_complete k.received ≡ whole
      → nat_lt REPLY_BYTES (length reply) ≡ false → Reading_ phase shut → Said k.sent
      → TurnsOn now k0 k → There s (calls name k) → Goes_ (on_call offering shut reply phase) s w t
      → Left
  reads_nothing k offering shut reply phase s true none is few reading said on at go =
      let v : CallerState = on_call offering shut reply phase in
      let r = read_once k v s callreads.End []
      (ap (λ (u : List ℕ). read_from 4096 u (is_complete k.received)) none ∙ ap (read_from 4096 []) is)
      (asks_read offering shut reply phase reading few) at go in
      let e : Event = events.HasRead c 4096 (readers.Client (client_read_got callreads.End)) [] in
      let over = turn_over (calling REPLY_BYTES) node ((calling REPLY_BYTES).heard v e) w (with_event node e s) t
      r.goes.0 refl r.goes.1 in
      let f : CallLooks = after_read now true [] k in
      ended_now name f ends.Ok (subst (λ (u : Stage). There u (ended name ends.Ok f)) (sym over.1) r.at)
      (turn_trans now k0 k f on (turns_read k f true [] (turns_none f)))
  reads_nothing k offering shut reply phase s false none is few reading said on at go =
      let v : CallerState = on_call offering shut reply phase in
      let r = read_once k v s callreads.NotYet []
      (ap (λ (u : List ℕ). read_from 4096 u (is_complete k.received)) none ∙ ap (read_from 4096 []) is)
      (asks_read offering shut reply phase reading few) at go in
      let e : Event = events.HasRead c 4096 (readers.Client (client_read_got callreads.NotYet)) [] in
      let still : nat_lt REPLY_BYTES (length (reply ++ [])) ≡ false =
      ap (λ (ys : List ℕ). nat_lt REPLY_BYTES (length ys)) (append-nil reply) ∙ few in
      let over = turn_over (calling REPLY_BYTES) node ((calling REPLY_BYTES).heard v e) w (with_event node e s) t
      r.goes.0 (rw still refl) r.goes.1 in
      let f : CallLooks = after_read now false [] k in
      reads_on name f (subst (λ (u : Stage). There u (calls name f)) (sym over.1) r.at)
      (turn_trans now k0 k f on (turns_read k f false [] (turns_none f))) (unread_same now k none) is said

  -- what is there is read, a part at a time; the fuel is its length
  pub reads_out : (fuel : ℕ) (k : CallLooks) (offering : List ℕ) (shut : Bool) (reply : List ℕ)
      (phase : Phase) (s : Stage)
      → length (unread_of k.received) ≤ fuel → Reading_ phase shut → Said k.sent
      → TurnsOn now k0 k → There s (calls name k) → Goes_ (on_call offering shut reply phase) s w t
      → Left
  reads_out zero k offering shut reply phase s short reading said on at go =
      by (nat_lt REPLY_BYTES (length reply)) refl
    where
      by : (b : Bool) → nat_lt REPLY_BYTES (length reply) ≡ b → Left
      by true long = gives_up k offering shut reply phase s long on at go
      by false few =
          reads_nothing k offering shut reply phase s (is_complete k.received)
          (none_to_read (unread_of k.received) short) refl few reading said on at go
  reads_out (suc fuel) k offering shut reply phase s short reading said on at go =
      by (λ k2 reply2 s2 short2 said2 on2 at2 go2.
      reads_out fuel k2 offering shut reply2 phases.Reading s2 short2 (goes_on shut) said2 on2 at2 go2)
      (nat_lt REPLY_BYTES (length reply)) refl
    where
      Again : Type 0
      Again = (k2 : CallLooks) (reply2 : List ℕ) (s2 : Stage) → length (unread_of k2.received) ≤ fuel
          → Said k2.sent → TurnsOn now k0 k2 → There s2 (calls name k2)
          → Goes_ (on_call offering shut reply2 phases.Reading) s2 w t → Left

      more : Again → nat_lt REPLY_BYTES (length reply) ≡ false → (b : ℕ) (bs : List ℕ)
          → unread_of k.received ≡ b ∷ bs → Left
      more again few b bs is =
          let came : List ℕ = take 4096 (b ∷ bs) in
          let count : ℕ = min 4096 (length (b ∷ bs)) in
          let r = read_once k (on_call offering shut reply phase) s (callreads.Got count) came
          (ap (λ (u : List ℕ). read_from 4096 u (is_complete k.received)) is)
          (asks_read offering shut reply phase reading few) at go in
          let k2 : CallLooks = after_read now false came k in
          let left : unread_of k2.received ≡ drop 4096 (b ∷ bs) =
          ap (λ (u : List ℕ). unread_of (after_read now false (take 4096 u) k).received) (sym is)
          ∙ unread_behind now 4096 k ∙ ap (λ (u : List ℕ). drop 4096 u) is in
          let whole : length (unread_of k.received) ≡ length (b ∷ bs) = ap (λ (u : List ℕ). length u) is in
          let rest : length (unread_of k2.received) ≡ length (b ∷ bs) - 4096 =
          ap (λ (u : List ℕ). length u) left ∙ length-drop 4096 (b ∷ bs) in
          again k2 (reply ++ came)
          (with_event node (events.HasRead c 4096 (readers.Client (client_read_got (callreads.Got count))) came) s)
          (omega (arith, short, whole, rest)) said
          (turn_trans now k0 k k2 on (turns_read k k2 false came (turns_none k2))) r.at r.goes

      of : Again → nat_lt REPLY_BYTES (length reply) ≡ false → (u : List ℕ) → unread_of k.received ≡ u
          → Left
      of again few [] is =
          reads_nothing k offering shut reply phase s (is_complete k.received) is refl few reading said on at go
      of again few (b ∷ bs) is = more again few b bs is

      by : Again → (b : Bool) → nat_lt REPLY_BYTES (length reply) ≡ b → Left
      by again true long = gives_up k offering shut reply phase s long on at go
      by again false few = of again few (unread_of k.received) refl
