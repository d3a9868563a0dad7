-- Messages of a call that are delivered to a node where the call is its channel's latest, one after another: its end
-- takes each of them, until a finished call is over.
use Rattle.std.proofs.Common.{◌≡◌, ◌⊎◌, ◌++◌, ℕ, ℤ, Bool, true, false, List, [], ◌∷◌, Option, Some, None, Ok, refl, ◌∙◌}
use Rattle.std.proofs.Common.{ap, sym, subst, inl, inr, ⊎_elim, append_assoc}
use Rattle.std.specs.Prelude.{slice_get}
use Rattle.rx_model.specs.declared.answers.Took.{Took}
use Rattle.rx_model.specs.declared.answers.Took.TheVariants as tooks
use Rattle.rx_model.specs.declared.event.Event.{Event}
use Rattle.rx_model.specs.declared.event.Event.TheVariants as events
use Rattle.rx_model.specs.declared.event.Noted.{Noted}
use Rattle.rx_model.specs.declared.names.CallName.{CallName}
use Rattle.rx_model.specs.declared.names.Host.{Host}
use Rattle.rx_model.specs.Body.{Body}
use Rattle.rx_model.specs.Body as bodies
use Rattle.rx_model.specs.Message.{Message}
use Rattle.rx_model.specs.Names.{channel_of, connection_of, same_host}
use Rattle.rx_model.specs.Reading.{reading_of}
use Rattle.rx_rules.specs.After.{after, looks, served_code}
use Rattle.rx_rules.specs.CallLooks.{CallLooks, NodeView, after_taken, call_row, is_delivered}
use Rattle.rx_rules.specs.Classes.{null}
use Rattle.rx_rules.specs.Judging.{is_peer, outer_row, took_of}
use Rattle.rx_rules.specs.Life.{Life, after_acks, is_active}
use Rattle.rx_rules.specs.Life as lives
use Rattle.rx_rules.specs.Looks.{CallRecord, ChannelLooks, Looks, call_at, channel_at, conn_at}
use Rattle.rx_rules.specs.Setup.{Setup, named}
use Rattle.rx_rules.specs.Slots.{node_view}
use Rattle.rx_history.specs.Sides.{Node, side}
use Rattle.rx_law.specs.Worlds.{Datagram}
use Rattle.rx_wire.specs.Turns.{noted}
use Rattle.rx_plan.specs.Network.{delivers}
use Rattle.rx_plan.specs.Parts.{each}
use Rattle.rx_plan.specs.Stages.{Stage}
use Rattle.rx_between.specs.Agreed.{MakesSense, SenseAt, passed_at}
use Rattle.rx_rounds.proofs.Rounded.{Made}
use Rattle.rx_rounds.proofs.Two.{sent}
use Rattle.rx_closing.proofs.Messages.Delivered.{FirstOf, TookAt, delivers_first, delivers_grow, delivers_none}
use Rattle.rx_closing.proofs.Messages.Delivered.{takes_from}
use Rattle.rx_closing.proofs.Messages.Judged.{is_foreign, judged_by, row_foreign, taken_by}
use Rattle.rx_closing.proofs.Messages.Rows.{IsLast, over_took, own_took, stray_none}
use Rattle.rx_closing.proofs.Messages.Sifted.{Sifted, sifts_none, sifts_other, sifts_own}
use Rattle.rx_closing.proofs.Messages.TookOver.{TookOver, again_owes, took_over}
use Rattle.rx_closing.proofs.Messages.TookOwn.{TookOwn, lived, taken_record, took_own}
use Rattle.rx_closing.proofs.Steps.{IsViewAt, TakesIn, takes_none, takes_one}
use Rattle.rx_history.proofs.Plain.PlainBodies.{IsSent}

-- ---- a life behind a message

-- it stays at work, or a finished call is over
lived_so : (body : Body) (b : CallLooks) (x : Life) → is_active x ≡ true
    → (lived body b x ≡ x) ⊎ ((x ≡ lives.Finished) × (is_delivered b ≡ true) × (lived body b x ≡ lives.Over None))
lived_so (bodies.Ack a) b lives.Finished active = of (is_delivered b) refl
  where
    of : (all : Bool) → is_delivered b ≡ all
        → (after_acks (is_delivered b) lives.Finished ≡ lives.Finished)
        ⊎ ((lives.Finished ≡ lives.Finished) × (is_delivered b ≡ true)
        × (after_acks (is_delivered b) lives.Finished ≡ lives.Over None))
    of true is = inr (refl, is, ap (λ (all : Bool). after_acks all lives.Finished) is)
    of false is = inl (ap (λ (all : Bool). after_acks all lives.Finished) is)
lived_so (bodies.Ack a) b lives.Calling active = inl refl
lived_so (bodies.Ack a) b lives.Waiting active = inl refl
lived_so (bodies.Ack a) b lives.Accepted active = inl refl
lived_so (bodies.Ack a) b (lives.Ended end) active = absurd cc
lived_so (bodies.Ack a) b (lives.Broken code) active = absurd cc
lived_so (bodies.Ack a) b (lives.Over code) active = absurd cc
lived_so _ b x active = inl refl

-- ---- all of them

-- what its end made of these messages: it took all, and lives as before; or it took some and then a finished call was
-- over
pub data TookAll (s : Setup) (now : ℕ) (k : CallRecord) (ms : List Message) (b : CallRecord) : Type 0 where
  at_work : (f : CallLooks) → TakesIn s now k.looks ms f → b ≡ record k { looks = f } → TookAll s now k ms b
  settles : (front back : List Message) (f : CallLooks) → ms ≡ front ++ back → TakesIn s now k.looks front f
      → k.life ≡ lives.Finished → is_delivered f ≡ true → b ≡ record k { looks = f; life = lives.Over None }
      → TookAll s now k ms b

-- of the call's record, its channel and its connection behind all
pub record AllTaken (s : Setup) (c : CallName) (Open : Looks → Type 0) (l : Looks) (k : CallRecord) (ms : List Message)
    (m : Looks) : Type 0 where
  pub call : CallRecord
  pub took : TookAll s l.now k ms call
  pub last : IsLast m c call
  pub open_ : Open m
  pub now : m.now ≡ l.now

-- some message
abbrev pub IsMore : List Message → Type 0
IsMore [] = ⊥
IsMore (m ∷ ms) = Unit {0}

-- behind messages of a call that isn't at work: its record stays, and its code is owed where one of them came, or it
-- was
pub record AllOver (c : CallName) (Open : Looks → Type 0) (l : Looks) (k : CallRecord) (ms : List Message)
    (m : Looks) : Type 0 where
  pub last : IsLast m c k
  pub open_ : Open m
  pub now : m.now ≡ l.now
  pub owed :
      (code : ℤ) → served_code k.life ≡ Some code
      → ((channel_at l (channel_of c)).owed_abort ≡ Some code) ⊎ IsMore ms
      → (channel_at m (channel_of c)).owed_abort ≡ Some code

module _ (s : Setup) (c : CallName) (Open : Looks → Type 0) (l q m : Looks) (k : CallRecord) (first : Message)
    (ms : List Message) (v : NodeView) (got : Took) where
  -- the first one in front of the others
  pub taken_first : IsViewAt s l.now v → call_row v first first.body k.looks ≡ got → MakesSense got → q.now ≡ l.now
      → AllTaken s c Open q (record k { looks = after_taken v got first k.looks }) ms m
      → AllTaken s c Open l k (first ∷ ms) m
  taken_first view row fine now r =
      record { call = r.call; took = by r.took; last = r.last; open_ = r.open_; now = r.now ∙ now }
    where
      k1 : CallRecord
      k1 = record k { looks = after_taken v got first k.looks }

      by : TookAll s q.now k1 ms r.call → TookAll s l.now k (first ∷ ms) r.call
      by (at_work f takes is) =
          at_work f (takes_one k.looks f first ms v got view row fine
          (subst (λ (t : ℕ). TakesIn s t (after_taken v got first k.looks) ms f) now takes)) is
      by (settles fs bs f are takes finished all is) =
          settles (first ∷ fs) bs f (ap (λ (xs : List Message). first ∷ xs) are)
          (takes_one k.looks f first fs v got view row fine
          (subst (λ (t : ℕ). TakesIn s t (after_taken v got first k.looks) fs f) now takes)) finished all is

last_behind : (l m : Looks) (c : CallName) (k b : CallRecord) → IsLast l c k → TookOwn c l b m → IsLast m c b
last_behind l m c k b last own =
    record { there = own.there; number = own.number ∙ last.number; some = last.some }

module _ (n : Node) (j : ℕ) (c : CallName) (open_ : n.setup.class ≡ null) (from to : Host) (Own : Message → Type 0)
    (here : same_host to n.host ≡ true)
    (name : (m : Message) → Own m → named n.setup from m ≡ c)
    (stream : (m : Message) → Own m → IsSent m.body)
    (Open : Looks → Type 0)
    (lasts : (l m : Looks)
    → ((host : Host) → is_peer host (conn_at m (connection_of c)) ≡ is_peer host (conn_at l (connection_of c)))
    → Open l → Open m)
    (front : (l : Looks) (m : Message) → Own m → Open l → outer_row n.setup n.setup.kind l from m ≡ None)
    (h : List Noted)
    (sense : (bytes : List ℕ) (m : Message) (got : Took) (later at : List Noted) → Own m
    → h ≡ later ++ noted j (events.Taken from bytes got) ∷ at → reading_of bytes ≡ Ok m → (got ≡ tooks.Foreign → ⊥)
    → outer_row n.setup n.setup.kind (looks n.setup (side j at)) from m ≡ None
    → SenseAt n.setup m (call_at (looks n.setup (side j at)) c))
  where
    -- what the node's side says at a stage
    abbrev at_stage : Stage → Looks
    at_stage u = looks n.setup (side j u.history)

    number_is : (m : Message) → Own m → m.number ≡ c.number
    number_is m own = ap (λ (d : CallName). d.number) (name m own)

    -- the look-ups behind one of them
    behind_one : (bytes : List ℕ) (u v : Stage) → TookAt j n (sent from to bytes) u.history v.history
        → at_stage v ≡ after n.setup (takes_from n.setup (sent from to bytes) (at_stage u)) (at_stage u)
    behind_one bytes u v took = ap (looks n.setup) took.own

    record OneTaken (k : CallRecord) (m : Message) (u v : Stage) : Type 0 where
      got : Took
      row : call_row (node_view n.setup (at_stage u)) m m.body k.looks ≡ got
      sense_is : MakesSense got
      own : TookOwn c (at_stage u) (taken_record (node_view n.setup (at_stage u)) got m k) (at_stage v)

    -- one of them at a call at work
    one_taken : (bytes : List ℕ) (m : Message) (u v : Stage) (k : CallRecord) (more : List Noted)
        → reading_of bytes ≡ Ok m → Own m → TookAt j n (sent from to bytes) u.history v.history → h ≡ more ++ v.history
        → IsLast (at_stage u) c k → is_active k.life ≡ true → Open (at_stage u) → OneTaken k m u v
    one_taken bytes m u v k more reads own took grown last active opens =
        let l : Looks = at_stage u in
        let got : Took = took_of n.setup l from bytes in
        let outer : outer_row n.setup n.setup.kind l from m ≡ None = front l m own opens in
        let row : call_row (node_view n.setup l) m m.body k.looks ≡ got =
        sym (judged_by n.setup l c from bytes m reads outer (name m own)
        ∙ own_took n.setup l c k m last active (number_is m own) (stream m own)) in
        let other : got ≡ tooks.Foreign → ⊥ =
        λ is. (let yes : is_foreign (call_row (node_view n.setup l) m m.body k.looks) ≡ true =
        ap is_foreign (row ∙ is) in
        let no' = row_foreign (node_view n.setup l) m m.body k.looks (stream m own) in cc (yes, no')) in
        let outer_then : outer_row n.setup n.setup.kind (looks n.setup (side j took.at)) from m ≡ None =
        subst (λ (es : List Event). outer_row n.setup n.setup.kind (looks n.setup es) from m ≡ None) (sym took.still)
        outer in
        let at_then : SenseAt n.setup m (call_at l c) =
        subst (λ (es : List Event). SenseAt n.setup m (call_at (looks n.setup es) c)) took.still
        (sense bytes m got (more ++ took.later) took.at own
        (grown ∙ ap (λ (es : List Noted). more ++ es) took.is ∙ sym (append_assoc more took.later _))
        reads other outer_then) in
        let sensed : MakesSense (call_row (node_view n.setup l) m m.body k.looks) =
        subst (λ (o : Option CallRecord). MakesSense (call_row (node_view n.setup l) m m.body
        (passed_at n.setup l.now o))) last.there (at_then (node_view n.setup l) refl refl) in
        let fine : MakesSense got = subst MakesSense row sensed in
        record {
          got = got;
          row = row;
          sense_is = fine;
          own =
              subst (TookOwn c l (taken_record (node_view n.setup l) got m k))
              (sym (behind_one bytes u v took ∙ taken_by n.setup l c from bytes m got reads outer (name m own)))
              (took_own n.setup l c k m open_ last got row (stream m own) fine);
        }

    -- one of them at a call that is over
    one_over : (bytes : List ℕ) (m : Message) (u v : Stage) (k : CallRecord) → reading_of bytes ≡ Ok m → Own m
        → TookAt j n (sent from to bytes) u.history v.history → IsLast (at_stage u) c k → is_active k.life ≡ false
        → Open (at_stage u) → TookOver c (at_stage u) k m.body (at_stage v)
    one_over bytes m u v k reads own took last active opens =
        let l : Looks = at_stage u in
        let outer : outer_row n.setup n.setup.kind l from m ≡ None = front l m own opens in
        let got : took_of n.setup l from bytes ≡ tooks.Over =
        judged_by n.setup l c from bytes m reads outer (name m own)
        ∙ over_took n.setup l c k m last active (number_is m own) (stray_none m m.body (stream m own)) in
        subst (TookOver c l k m.body)
        (sym (behind_one bytes u v took
        ∙ ap (λ (t : Took). after n.setup (events.Taken from bytes t) l) got
        ∙ taken_by n.setup l c from bytes m tooks.Over reads outer (name m own)))
        (took_over n.setup l c k m last)

    -- ---- several

    -- where the call is over
    pub all_over : (ds : List Datagram) (ms : List Message) → Sifted Own (λ d. ⊥) from to ds ms → (s t : Stage)
        → slice_get s.nodes j ≡ Some n → Made (each delivers ds) s t → (k : CallRecord) → IsLast (at_stage s) c k
        → is_active k.life ≡ false → Open (at_stage s) → AllOver c Open (at_stage s) k ms (at_stage t)
    all_over ds ms sifts_none s t there made k last active opens =
        let same : at_stage t ≡ at_stage s = ap at_stage (delivers_none s t made) in
        record {
          last = subst (λ (l : Looks). IsLast l c k) (sym same) last;
          open_ = subst Open (sym same) opens;
          now = ap (λ (l : Looks). l.now) same;
          owed = λ code is why.
              ap (λ (l : Looks). (channel_at l (channel_of c)).owed_abort) same
              ∙ ⊎_elim (λ (owes : (channel_at (at_stage s) (channel_of c)).owed_abort ≡ Some code). owes)
              (λ (some : ⊥). absurd some) why;
        }
    all_over ds ms (sifts_own bytes m ds1 ms1 reads own rest) s t there made k last active opens =
        let f = delivers_first (sent from to bytes) ds1 s t made in
        let o = one_over bytes m s f.between k reads own ((f.first.comes j n there).takes here) last active opens in
        let r =
        all_over ds1 ms1 rest f.between t (ap (λ (u : Stage). slice_get u.nodes j) f.first.rest ∙ there) f.others k
        (last_behind (at_stage s) (at_stage f.between) c k k last o.own) active
        (lasts (at_stage s) (at_stage f.between) o.own.peer opens) in
        record {
          last = r.last;
          open_ = r.open_;
          now = r.now ∙ o.own.now;
          owed = λ code is why.
              r.owed code is (inl (ap (λ (q : ChannelLooks). q.owed_abort) o.owes
              ∙ again_owes m.body k.life code (channel_at (at_stage s) (channel_of c)) (stream m own) is));
        }
    all_over ds ms (sifts_other d ds1 ms1 other rest) s t there made k last active opens = absurd other

    -- where it is at work
    pub all_taken : (ds : List Datagram) (ms : List Message) → Sifted Own (λ d. ⊥) from to ds ms → (s t : Stage)
        → slice_get s.nodes j ≡ Some n → Made (each delivers ds) s t → (more : List Noted) → h ≡ more ++ t.history
        → (k : CallRecord) → IsLast (at_stage s) c k → is_active k.life ≡ true → Open (at_stage s)
        → AllTaken n.setup c Open (at_stage s) k ms (at_stage t)
    all_taken ds ms sifts_none s t there made more grown k last active opens =
        let same : at_stage t ≡ at_stage s = ap at_stage (delivers_none s t made) in
        record {
          call = k;
          took = at_work k.looks (takes_none k.looks) refl;
          last = subst (λ (l : Looks). IsLast l c k) (sym same) last;
          open_ = subst Open (sym same) opens;
          now = ap (λ (l : Looks). l.now) same;
        }
    all_taken ds ms (sifts_own bytes m ds1 ms1 reads own rest) s t there made more grown k last active opens =
        of (delivers_first (sent from to bytes) ds1 s t made)
        (λ u there_ goes more_ grown_ b last_ active_ opens_.
        all_taken ds1 ms1 rest u t there_ goes more_ grown_ b last_ active_ opens_)
        (λ u there_ goes b last_ active_ opens_. all_over ds1 ms1 rest u t there_ goes b last_ active_ opens_)
      where
        l : Looks
        l = at_stage s

        v : NodeView
        v = node_view n.setup l

        view : IsViewAt n.setup l.now v
        view = record { client = refl; window = refl; moment = refl }

        of : (f : FirstOf (sent from to bytes) ds1 s t)
            → ((u : Stage) → slice_get u.nodes j ≡ Some n → Made (each delivers ds1) u t → (more_ : List Noted)
            → h ≡ more_ ++ t.history → (b : CallRecord) → IsLast (at_stage u) c b → is_active b.life ≡ true
            → Open (at_stage u) → AllTaken n.setup c Open (at_stage u) b ms1 (at_stage t))
            → ((u : Stage) → slice_get u.nodes j ≡ Some n → Made (each delivers ds1) u t → (b : CallRecord)
            → IsLast (at_stage u) c b → is_active b.life ≡ false → Open (at_stage u)
            → AllOver c Open (at_stage u) b ms1 (at_stage t))
            → AllTaken n.setup c Open l k (m ∷ ms1) (at_stage t)
        of f onward over =
            let u : Stage = f.between in
            let grew = delivers_grow ds1 u t f.others in
            let o = one_taken bytes m s u k (more ++ grew.more) reads own ((f.first.comes j n there).takes here)
            (grown ∙ ap (λ (es : List Noted). more ++ es) grew.is ∙ sym (append_assoc more grew.more u.history))
            last active opens in
            let there_ : slice_get u.nodes j ≡ Some n =
            ap (λ (w : Stage). slice_get w.nodes j) f.first.rest ∙ there in
            let last_ = last_behind l (at_stage u) c k (taken_record v o.got m k) last o.own in
            let opens_ = lasts l (at_stage u) o.own.peer opens in
            ⊎_elim
            (λ (stays : lived m.body (after_taken v o.got m k.looks) k.life ≡ k.life).
            (let b : CallRecord = record k { looks = after_taken v o.got m k.looks } in
            let same : taken_record v o.got m k ≡ b =
            ap (λ (x : Life). record k { looks = after_taken v o.got m k.looks; life = x }) stays in
            taken_first n.setup c Open l (at_stage u) (at_stage t) k m ms1 v o.got view o.row o.sense_is o.own.now
            (onward u there_ f.others more grown b
            (subst (λ (r : CallRecord). IsLast (at_stage u) c r) same last_) active opens_)))
            (λ (ends : (k.life ≡ lives.Finished) × (is_delivered (after_taken v o.got m k.looks) ≡ true)
            × (lived m.body (after_taken v o.got m k.looks) k.life ≡ lives.Over None)).
            (let b : CallRecord = record k { looks = after_taken v o.got m k.looks; life = lives.Over None } in
            let same : taken_record v o.got m k ≡ b =
            ap (λ (x : Life). record k { looks = after_taken v o.got m k.looks; life = x }) ends.2 in
            let r =
            over u there_ f.others b (subst (λ (q : CallRecord). IsLast (at_stage u) c q) same last_) refl opens_ in
            record {
              call = b;
              took =
                  settles (m ∷ []) ms1 (after_taken v o.got m k.looks) refl
                  (takes_one k.looks (after_taken v o.got m k.looks) m [] v o.got view o.row o.sense_is
                  (takes_none (after_taken v o.got m k.looks))) ends.0 ends.1 refl;
              last = r.last;
              open_ = r.open_;
              now = r.now ∙ o.own.now;
            }))
            (lived_so m.body (after_taken v o.got m k.looks) k.life active)
    all_taken ds ms (sifts_other d ds1 ms1 other rest) s t there made more grown k last active opens = absurd other
