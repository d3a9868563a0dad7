-- No event makes the channel of a call owe anything of it, where the call is active before it and behind it.
use Rattle.std.proofs.Common.{◌≡◌, ◌&&◌, ◌==◌, not, cond, ℕ, ℤ, Bool, true, false, List, [], Option, Some, None}
use Rattle.std.proofs.Common.{option_map, Result, Ok, Err, refl, ap, sym, subst, ◌∙◌, ◌||◌}
use Rattle.rx_model.specs.declared.answers.ReadAns.{ReadAns}
use Rattle.rx_model.specs.declared.answers.ReadAns.TheVariants as answers
use Rattle.rx_model.specs.declared.answers.ReadGot.{ReadGot}
use Rattle.rx_model.specs.declared.answers.ReadGot.TheVariants as readers
use Rattle.rx_model.specs.declared.answers.ServeRead.{ServeRead}
use Rattle.rx_model.specs.declared.answers.ServeRead.TheVariants as reads
use Rattle.rx_model.specs.declared.answers.ServeRefused.{ServeRefused}
use Rattle.rx_model.specs.declared.event.Event.{Event}
use Rattle.rx_model.specs.declared.event.Event.TheVariants as events
use Rattle.rx_model.specs.declared.names.CallName.{CallName}
use Rattle.rx_model.specs.Names.{channel_of}
use Rattle.rx_model.specs.Reading.{reading_of}
use Rattle.rx_model.proofs.NameLaws.{name_itself, same_number, both as both_true}
use Rattle.rx_rules.specs.After.{acknowledged, after, finished, is_end, is_zero, looks, owing_abort, owing_ackall}
use Rattle.rx_rules.specs.After.{read_done}
use Rattle.rx_rules.specs.CallLooks.{CallLooks, after_read, after_shut}
use Rattle.rx_rules.specs.Life.{Life, after_cancel, after_end, after_finish, is_active, is_calling, is_live}
use Rattle.rx_rules.specs.Life as lives
use Rattle.rx_rules.specs.Looks.{CallRecord, Looks, call_at, channel_at, is_call, on_channel, on_life, on_looks}
use Rattle.rx_rules.specs.Rules.{Allowed, AllowedAt, Legal, client_read, own_call, served_finish, served_read}
use Rattle.rx_rules.specs.Rules.{served_read_by}
use Rattle.rx_rules.specs.Received.{read_of}
use Rattle.rx_rules.specs.Setup.{Client, FitsSetup, Kind, Server, Setup}
use Rattle.rx_history.proofs.Calls.{call-changed}
use Rattle.rx_history.proofs.ServerStands.{running-at}
use Rattle.rx_asks.specs.History.{IsCalled}
use Rattle.rx_plan.proofs.Aborts.AbortCauses.{cancelled_live, taken_is}
use Rattle.rx_plan.proofs.ClientEnds.{IsCalledOr, calls_called}
use Rattle.rx_closing.proofs.Owing.ChannelsStay.{IsMute}
use Rattle.rx_closing.proofs.Quiet.QuietSteps.{GoesSo, Hushes, Leaves}
use Rattle.rx_closing.proofs.Quiet.QuietTakes.{latest_own, life_at, live_own, not_active, reads_leave}

module _ (s : Setup) (mute : IsMute s.class) (fits : FitsSetup s) (c : CallName) (h : List Event) (legal : Legal s h)
    (q : CallRecord) (there : call_at (looks s h) c ≡ Some q) (active : is_active q.life ≡ true) where
  abbrev l : Looks
  l = looks s h

  own_latest : (d : CallName) → channel_of d ≡ channel_of c → (channel_at l (channel_of d)).number ≡ d.number → d ≡ c
  own_latest d same number = latest_own s mute fits c h legal q there active d same number

  own_live : (d : CallName) → channel_of d ≡ channel_of c → is_call (λ k. is_live k.life) (call_at l d) ≡ true → d ≡ c
  own_live d same living = live_own s mute fits c h legal q there active d same living

  -- ---- a read

  -- the call behind what it passed
  looks_at : (n : Looks) (f : CallLooks → CallLooks) (k : CallRecord) → call_at n c ≡ Some k
      → call_at (on_looks c f n) c ≡ Some (record k { looks = f k.looks })
  looks_at n f k before =
      call-changed c c (λ (j : CallRecord). record j { looks = f j.looks }) n (λ j. refl)
      ∙ ap (λ (b : Bool). cond b (option_map (λ (j : CallRecord). record j { looks = f j.looks }) (call_at n c))
      (call_at n c)) (name_itself c)
      ∙ ap (option_map (λ (j : CallRecord). record j { looks = f j.looks })) before

  end_idle : (x : Life) (end : Bool) → end ≡ true → is_calling x ≡ true → is_active (after_end end x) ≡ false
  end_idle lives.Calling true is calls = refl
  end_idle lives.Calling false is calls = absurd cc
  end_idle _ e is calls = absurd cc

  -- a client reads its channel's latest call alone
  read_own : (d : CallName) (max : ℕ) (got : ReadAns) (bytes : List ℕ)
      → ◌≡◌ {A = ReadAns × List ℕ} (got, bytes) (client_read (own_call l d) max)
      → is_end (readers.Client got) ≡ true → (channel_at l (channel_of d)).number ≡ d.number
  read_own d max got bytes is end =
      (elim ((channel_at l (channel_of d)).number == d.number)
      as (λ b. ((channel_at l (channel_of d)).number == d.number) ≡ b
      → ◌≡◌ {A = ReadAns × List ℕ} (got, bytes) (client_read (cond b (call_at l d) None) max)
      → (channel_at l (channel_of d)).number ≡ d.number) [
        | true ↦ λ same read. same_number (channel_at l (channel_of d)).number d.number same
        | false ↦ λ other read. absurd (
            let unknown : got ≡ answers.Unknown = ap (λ (p : ReadAns × List ℕ). p.0) read in
            let none : is_end (readers.Client got) ≡ false =
            ap (λ (a : ReadAns). is_end (readers.Client a)) unknown in
            let no : true ≡ false = sym end ∙ none in
            cc (no))
      ]) refl is

  -- a server reads no call of a client
  served_none : (o : Option CallRecord) (max : ℕ) (got : ServeRead) (bytes : List ℕ)
      → ◌≡◌ {A = ServeRead × List ℕ} (got, bytes) (served_read o max) → is_end (readers.Server got) ≡ true
      → is_call (λ k. is_calling k.life) o ≡ true → ⊥
  served_none None max got bytes is end calls = cc
  served_none (Some k) max got bytes is end calls = of k.life refl calls
    where
      none : {A : Type 0} (x : Life) → k.life ≡ x → is_calling x ≡ false → A
      none x same idle = absurd (let no : true ≡ false = sym calls ∙ ap is_calling same ∙ idle in cc (no))

      of : (x : Life) → k.life ≡ x → is_calling k.life ≡ true → ⊥
      of lives.Calling same calls_ =
          (let read : ◌≡◌ {A = ServeRead × List ℕ} (got, bytes) (reads.NotOpen, []) =
          is ∙ ap (λ (x : Life). served_read_by x (read_of k.looks.received max)) same in
          let open_ : got ≡ reads.NotOpen = ap (λ (p : ServeRead × List ℕ). p.0) read in
          let ends : is_end (readers.Server got) ≡ false = ap (λ (a : ServeRead). is_end (readers.Server a)) open_ in
          let no : true ≡ false = sym end ∙ ends in cc (no))
      of (lives.Ended e) same calls_ = none (lives.Ended e) same refl
      of lives.Waiting same calls_ = none lives.Waiting same refl
      of lives.Accepted same calls_ = none lives.Accepted same refl
      of lives.Finished same calls_ = none lives.Finished same refl
      of (lives.Broken code) same calls_ = none (lives.Broken code) same refl
      of (lives.Over code) same calls_ = none (lives.Over code) same refl

  read_never : (kind : Kind) (d : CallName) (max : ℕ) (got : ReadGot) (bytes : List ℕ) (r : CallRecord)
      → AllowedAt kind s l (events.HasRead d max got bytes) → channel_of d ≡ channel_of c → is_end got ≡ true
      → is_call (λ k. is_calling k.life) (call_at l d) ≡ true → call_at (read_done d (is_end got) bytes l) c ≡ Some r
      → is_active r.life ≡ true → ⊥
  read_never (Server service nonces) d max (readers.Server got) bytes r allowed same end calls behind still =
      served_none (call_at l d) max got bytes allowed.1 end calls
  read_never (Server service nonces) d max (readers.Client got) bytes r allowed same end calls behind still = allowed
  read_never (Client host epoch) d max (readers.Server got) bytes r allowed same end calls behind still = allowed
  read_never (Client host epoch) d max (readers.Client got) bytes r allowed same end calls behind still =
      let own : d ≡ c = own_latest d same (read_own d max got bytes allowed.1 end) in
      let ends : Bool = is_end (readers.Client got) in
      let done : call_at (read_done c ends bytes l) c ≡ Some r =
      subst (λ (x : CallName). call_at (read_done x ends bytes l) c ≡ Some r) own behind in
      let k : CallRecord = record q { looks = after_read l.now ends bytes q.looks } in
      let front : Looks = acknowledged ends c l in
      let read : call_at (on_looks c (after_read l.now ends bytes) front) c ≡ Some k =
      looks_at front (after_read l.now ends bytes) q there in
      let life : r.life ≡ after_end ends q.life =
      life_at (on_looks c (after_read l.now ends bytes) front) c (after_end ends) k r read done in
      let calling : is_calling q.life ≡ true =
      sym (ap (λ (x : CallName). is_call (λ j. is_calling j.life) (call_at l x)) own
      ∙ ap (is_call (λ j. is_calling j.life)) there) ∙ calls in
      not_active r.life (after_end ends q.life) life (end_idle q.life ends end calling) still

  read_leaves : (d : CallName) (max : ℕ) (got : ReadGot) (bytes : List ℕ) (r : CallRecord)
      → AllowedAt s.kind s l (events.HasRead d max got bytes) → call_at (read_done d (is_end got) bytes l) c ≡ Some r
      → is_active r.life ≡ true
      → Leaves c d (owing_ackall (is_end got && is_call (λ k. is_calling k.life) (call_at l d)))
  read_leaves d max got bytes r allowed behind still same p here =
      of (is_end got && is_call (λ k. is_calling k.life) (call_at l d)) refl
    where
      of : (b : Bool) → (is_end got && is_call (λ k. is_calling k.life) (call_at l d)) ≡ b
          → Hushes c (owing_ackall b p)
      of false none = here
      of true both =
          absurd (let parts = both_true (is_end got) (is_call (λ k. is_calling k.life) (call_at l d)) both in
          read_never s.kind d max got bytes r allowed same parts.0 parts.1 behind still)

  -- ---- a finish with a code, and a cancel

  finish_never : (kind : Kind) (d : CallName) (code : ℤ) (done : Unit {0}) (r : CallRecord)
      → AllowedAt kind s l (events.Finished d code (Ok done)) → is_zero code ≡ false → channel_of d ≡ channel_of c
      → call_at (on_life d (after_finish (is_zero code) code) (finished d code l)) c ≡ Some r
      → is_active r.life ≡ true → ⊥
  finish_never (Client host epoch) d code done r allowed some same behind still = allowed
  finish_never (Server service nonces) d code done r allowed some same behind still = of (call_at l d) refl allowed.1
    where
      at : (k : CallRecord) → call_at l d ≡ Some k → k.life ≡ lives.Accepted → ⊥
      at k is runs =
          let own : d ≡ c = own_live d same
          (ap (is_call (λ j. is_live j.life)) is ∙ ap is_live runs) in
          let one : ◌≡◌ {A = Option CallRecord} (Some k) (Some q) =
          sym is ∙ ap (call_at l) own ∙ there in
          let same_q : k ≡ q = cc (one) in
          let behind_c : call_at (on_life c (after_finish (is_zero code) code) (finished c code l)) c ≡ Some r =
          subst (λ (x : CallName). call_at (on_life x (after_finish (is_zero code) code) (finished x code l)) c
          ≡ Some r) own behind in
          let before : call_at (finished c code l) c ≡ Some q =
          ap (λ (b : Bool). call_at (cond b (on_looks c after_shut l)
          (on_channel (channel_of c) (owing_abort (Some code)) l)) c) some ∙ there in
          let life : r.life ≡ after_finish (is_zero code) code q.life =
          life_at (finished c code l) c (after_finish (is_zero code) code) q r before behind_c in
          let over : after_finish (is_zero code) code q.life ≡ lives.Over (Some code) =
          ap (λ (b : Bool). after_finish b code q.life) some
          ∙ ap (after_finish false code) (ap (λ (j : CallRecord). j.life) (sym same_q) ∙ runs) in
          not_active r.life (lives.Over (Some code)) (life ∙ over) refl still

      of : (o : Option CallRecord) → call_at l d ≡ o
          → ◌≡◌ {A = Result (Unit {0}) ServeRefused} (Ok done) (served_finish o code) → ⊥
      of None is finish = cc
      of (Some k) is finish =
          at k is (running-at k.life (k.looks.received.ended || not (is_zero code)) done finish).0

  cancel_idle : (x : Life) (code : ℤ) → IsCalled x → is_active (after_cancel code x) ≡ false
  cancel_idle lives.Calling code called = refl
  cancel_idle (lives.Ended end) code called = refl
  cancel_idle _ code called = absurd called

  cancel_never : (kind : Kind) → s.kind ≡ kind → (d : CallName) (code : ℤ) (done : Unit {0}) (r : CallRecord)
      → AllowedAt kind s l (events.Cancelled d code (Ok done)) → channel_of d ≡ channel_of c
      → call_at (on_life d (after_cancel code) l) c ≡ Some r → is_active r.life ≡ true → ⊥
  cancel_never (Server service nonces) kind d code done r allowed same behind still = allowed
  cancel_never (Client host epoch) kind d code done r allowed same behind still =
      let own : d ≡ c =
      own_live d same (cancelled_live (Client host epoch) s l d code done allowed) in
      let life : r.life ≡ after_cancel code q.life =
      life_at l c (after_cancel code) q r there
      (subst (λ (x : CallName). call_at (on_life x (after_cancel code) l) c ≡ Some r) own behind) in
      let called : IsCalled q.life =
      subst IsCalledOr there (calls_called s host epoch kind fits h c legal) in
      not_active r.life (after_cancel code q.life) life (cancel_idle q.life code called) still

  -- ---- any event

  pub event_leaves : (e : Event) (r : CallRecord) → Allowed s l e → call_at (after s e l) c ≡ Some r
      → is_active r.life ≡ true → GoesSo c s l e
  event_leaves (events.Taken from bytes got) r allowed behind still =
      reads_leave s mute fits c h legal q there active from bytes got (reading_of bytes)
      (taken_is s.kind s l from bytes got allowed) refl
  event_leaves (events.HasRead d max got bytes) r allowed behind still =
      read_leaves d max got bytes r allowed behind still
  event_leaves (events.Finished d code (Ok done)) r allowed behind still =
      λ some same p here. absurd (finish_never s.kind d code done r allowed some same behind still)
  event_leaves (events.Cancelled d code (Ok done)) r allowed behind still =
      λ same p here. absurd (cancel_never s.kind refl d code done r allowed same behind still)
  event_leaves _ r allowed behind still = tt
