-- The events of callers seen from one call of a client: those of other calls leave it, and its own have the answers of
-- the rules.
use Rattle.std.proofs.Common.{◌≡◌, if◌then◌else◌, cond, min, ℕ, ℤ, Bool, true, false, List, take, length, Option, Some}
use Rattle.std.proofs.Common.{None, option_map, Result, Ok, Err, refl, ap, sym, subst, ◌∙◌}
use Rattle.std.proofs.lemmas.Bool.{eq-eqb}
use Rattle.rx_model.specs.declared.answers.NotOpen.{NotOpen}
use Rattle.rx_model.specs.declared.answers.ReadAns.{ReadAns}
use Rattle.rx_model.specs.declared.answers.ReadGot.TheVariants as readers
use Rattle.rx_model.specs.declared.answers.WroteGot.TheVariants as writers
use Rattle.rx_model.specs.declared.event.Event.{Event}
use Rattle.rx_model.specs.declared.event.Event.TheVariants as events
use Rattle.rx_model.specs.declared.names.CallName.{CallName}
use Rattle.rx_model.specs.declared.names.Host.{Host}
use Rattle.rx_model.specs.Names.{channel_of, same_name}
use Rattle.rx_model.proofs.NameLaws.{name_itself}
use Rattle.rx_rules.specs.After.{acknowledged, after, is_end, looks, read_done}
use Rattle.rx_rules.specs.CallLooks.{after_read, after_shut, after_write}
use Rattle.rx_rules.specs.Life.{after_cancel, after_end, is_live}
use Rattle.rx_rules.specs.Looks.{CallRecord, Looks, call_at, channel_at, is_call, on_call, on_looks}
use Rattle.rx_rules.specs.Received.{read_of}
use Rattle.rx_rules.specs.Rules.{AllowedClient, Legal, can_say, client_read, client_read_by, client_write, done_where}
use Rattle.rx_rules.specs.Rules.{own_call}
use Rattle.rx_rules.specs.Setup.{Setup}
use Rattle.rx_rules.specs.Slots.{room}
use Rattle.rx_rules.proofs.CallsLaws.{KeepsNames}
use Rattle.rx_rules.proofs.ConnsLaws.{channel_number}
use Rattle.rx_history.proofs.Calls.{call-changed}
use Rattle.rx_history.proofs.Dimensions.Dims.{Dims, dims_looks, dims_refl}
use Rattle.rx_history.proofs.Dimensions.DimsEvents.{cancel_dims, read_dims}
use Rattle.rx_history.proofs.Order.OrderlyHistory.{orderly_history}
use Rattle.rx_events.specs.Events.{written_count}
use Rattle.rx_asks.specs.Asks.{Asking, Cancels, IsAsked, Offers, Reads, Shuts}
use Rattle.rx_asks.proofs.Asked.{call_in}

-- ---- an event of another call

-- another call's record stays
other_stays : (c d : CallName) (change : CallRecord → CallRecord) (l : Looks) → KeepsNames change
    → same_name c d ≡ false → call_at (on_call d change l) c ≡ call_at l c
other_stays c d change l names other =
    call-changed c d change l names ∙ ap (λ (b : Bool). cond b (option_map change (call_at l c)) (call_at l c)) other

read_leaves : (c d : CallName) (end : Bool) (bytes : List ℕ) (l : Looks) → same_name c d ≡ false
    → call_at (read_done d end bytes l) c ≡ call_at l c
read_leaves c d end bytes l other =
    let first : Looks = acknowledged end d l in
    let second : Looks = on_looks d (after_read l.now end bytes) first in
    other_stays c d (λ k. record k { life = after_end end k.life }) second (λ k. refl) other
    ∙ other_stays c d (λ k. record k { looks = after_read l.now end bytes k.looks }) first (λ k. refl) other

-- what a caller asks of its call leaves any other
pub asked_stays : (s : Setup) (c : CallName) (a : Asking) (e : Event) (l : Looks) → IsAsked a e
    → same_name c (call_in a) ≡ false → call_at (after s e l) c ≡ call_at l c
asked_stays s c (Offers d block) (events.Wrote call offered (writers.Client got) bytes) l is other =
    other_stays c call (λ k. record k { looks = after_write bytes k.looks }) l (λ k. refl)
    (subst (λ (n : CallName). same_name c n ≡ false) (sym is.0) other)
asked_stays s c (Offers d block) e l is other = elim is [ ]
asked_stays s c (Shuts d) (events.Shut call (Ok done)) l is other =
    other_stays c call (λ k. record k { looks = after_shut k.looks }) l (λ k. refl)
    (subst (λ (n : CallName). same_name c n ≡ false) (sym is) other)
asked_stays s c (Shuts d) (events.Shut call (Err closed)) l is other = refl
asked_stays s c (Shuts d) e l is other = elim is [ ]
asked_stays s c (Reads d max) (events.HasRead call most (readers.Client got) bytes) l is other =
    read_leaves c call (is_end (readers.Client got)) bytes l
    (subst (λ (n : CallName). same_name c n ≡ false) (sym is.0) other)
asked_stays s c (Reads d max) e l is other = elim is [ ]
asked_stays s c (Cancels d code) (events.Cancelled call told (Ok done)) l is other =
    other_stays c call (λ k. record k { life = after_cancel told k.life }) l (λ k. refl)
    (subst (λ (n : CallName). same_name c n ≡ false) (sym is.0) other)
asked_stays s c (Cancels d code) (events.Cancelled call told (Err closed)) l is other = refl
asked_stays s c (Cancels d code) e l is other = elim is [ ]

-- ---- whatever the call

-- it brings no call to life
pub asked_dims : (s : Setup) (a : Asking) (e : Event) (l : Looks) → IsAsked a e → Dims l (after s e l)
asked_dims s (Offers d block) (events.Wrote call offered (writers.Client got) bytes) l is =
    dims_looks call (after_write bytes) l (λ k first. first)
asked_dims s (Offers d block) e l is = elim is [ ]
asked_dims s (Shuts d) (events.Shut call (Ok done)) l is = dims_looks call after_shut l (λ k first. first)
asked_dims s (Shuts d) (events.Shut call (Err closed)) l is = dims_refl l
asked_dims s (Shuts d) e l is = elim is [ ]
asked_dims s (Reads d max) (events.HasRead call most (readers.Client got) bytes) l is =
    read_dims call (is_end (readers.Client got)) bytes l
asked_dims s (Reads d max) e l is = elim is [ ]
asked_dims s (Cancels d code) (events.Cancelled call told (Ok done)) l is = cancel_dims call told l
asked_dims s (Cancels d code) (events.Cancelled call told (Err closed)) l is = dims_refl l
asked_dims s (Cancels d code) e l is = elim is [ ]

-- and no clock moves
pub asked_now : (s : Setup) (a : Asking) (e : Event) (l : Looks) → IsAsked a e → (after s e l).now ≡ l.now
asked_now s (Offers d block) (events.Wrote call offered (writers.Client got) bytes) l is = refl
asked_now s (Offers d block) e l is = elim is [ ]
asked_now s (Shuts d) (events.Shut call (Ok done)) l is = refl
asked_now s (Shuts d) (events.Shut call (Err closed)) l is = refl
asked_now s (Shuts d) e l is = elim is [ ]
asked_now s (Reads d max) (events.HasRead call most (readers.Client got) bytes) l is = refl
asked_now s (Reads d max) e l is = elim is [ ]
asked_now s (Cancels d code) (events.Cancelled call told (Ok done)) l is = refl
asked_now s (Cancels d code) (events.Cancelled call told (Err closed)) l is = refl
asked_now s (Cancels d code) e l is = elim is [ ]

-- ---- an event of the call itself

-- a live call is its channel's latest
pub own_is : (s : Setup) (h : List Event) (c : CallName) (r : CallRecord) → Legal s h
    → call_at (looks s h) c ≡ Some r → is_live r.life ≡ true → own_call (looks s h) c ≡ Some r
own_is s h c r legal there living =
    let l : Looks = looks s h in
    let latest = (orderly_history s h legal).latest c (ap (is_call (λ k. is_live k.life)) there ∙ living) in
    let number : (channel_at l (channel_of c)).number ≡ c.number =
    channel_number l (channel_of c) ∙ latest.number in
    ap (λ (b : Bool). if b then call_at l c else None) (eq-eqb (channel_at l (channel_of c)).number c.number number)
    ∙ there

-- the call's record behind a change of it
pub own_change : (c : CallName) (change : CallRecord → CallRecord) (l : Looks) (r : CallRecord) → KeepsNames change
    → call_at l c ≡ Some r → call_at (on_call c change l) c ≡ Some (change r)
own_change c change l r names there =
    call-changed c c change l names
    ∙ ap (λ (b : Bool). cond b (option_map change (call_at l c)) (call_at l c)) (name_itself c)
    ∙ ap (option_map change) there

pub own_read : (c : CallName) (end : Bool) (bytes : List ℕ) (l : Looks) (r : CallRecord) → call_at l c ≡ Some r
    → call_at (read_done c end bytes l) c
    ≡ Some (record r { life = after_end end r.life; looks = after_read l.now end bytes r.looks })
own_read c end bytes l r there =
    let first : Looks = acknowledged end c l in
    let second : Looks = on_looks c (after_read l.now end bytes) first in
    own_change c (λ k. record k { life = after_end end k.life }) second
    (record r { looks = after_read l.now end bytes r.looks }) (λ k. refl)
    (own_change c (λ k. record k { looks = after_read l.now end bytes k.looks }) first r (λ k. refl) there)

module _ (s : Setup) (host : Host) (epoch : ℕ) (c : CallName) (l : Looks) (r : CallRecord)
    (own : own_call l c ≡ Some r) where
  -- how many bytes of an offer are accepted
  abbrev pub taken_of : List ℕ → ℕ
  taken_of block = min (length block) (room s l r.looks)

  abbrev offer_at : ℕ → Bool → Result ℕ NotOpen
  offer_at n b = if b then Ok n else Err (record {})

  -- an offer
  pub offer_is : (block : List ℕ) (e : Event) → can_say r ≡ true → IsAsked (Offers c block) e
      → AllowedClient s host epoch l e
      → e ≡ events.Wrote c (length block) (writers.Client (Ok (taken_of block))) (take (taken_of block) block)
  offer_is block (events.Wrote d offered (writers.Client got) bytes) says is allowed =
      let got_is : ◌≡◌ {A = Result ℕ NotOpen} got (Ok (taken_of block)) =
      allowed.0 ∙ ap (λ (n : CallName). client_write s l (own_call l n) offered) is.0
      ∙ ap (λ (k : ℕ). client_write s l (own_call l c) k) is.1
      ∙ ap (λ (o : Option CallRecord). client_write s l o (length block)) own
      ∙ ap (offer_at (taken_of block)) says in
      let bytes_is : bytes ≡ take (taken_of block) block =
      is.2 ∙ ap (λ (g : Result ℕ NotOpen). take (written_count g) block) got_is in
      λ i. events.Wrote (is.0 i) (is.1 i) (writers.Client (got_is i)) (bytes_is i)
  offer_is block e says is allowed = elim is [ ]

  -- the end of the request
  pub shut_is : (e : Event) → can_say r ≡ true → IsAsked (Shuts c) e → AllowedClient s host epoch l e
      → e ≡ events.Shut c (Ok tt)
  shut_is (events.Shut d got) says is allowed =
      let got_is : ◌≡◌ {A = Result (Unit {0}) NotOpen} got (Ok tt) =
      allowed ∙ ap (λ (n : CallName). done_where (is_call can_say (own_call l n))) is
      ∙ ap (λ (o : Option CallRecord). done_where (is_call can_say o)) own ∙ ap done_where says in
      λ i. events.Shut (is i) (got_is i)
  shut_is e says is allowed = elim is [ ]

  -- a read
  pub read_is : (max : ℕ) (e : Event) → IsAsked (Reads c max) e → AllowedClient s host epoch l e
      → e ≡ events.HasRead c max (readers.Client (client_read_by r.life (read_of r.looks.received max)).0)
      (client_read_by r.life (read_of r.looks.received max)).1
  read_is max (events.HasRead d most (readers.Client got) bytes) is allowed =
      let pair : ◌≡◌ {A = ReadAns × List ℕ} (got, bytes) (client_read_by r.life (read_of r.looks.received max)) =
      allowed.1 ∙ ap (λ (n : CallName). client_read (own_call l n) most) is.0
      ∙ ap (λ (k : ℕ). client_read (own_call l c) k) is.1
      ∙ ap (λ (o : Option CallRecord). client_read o max) own in
      λ i. events.HasRead (is.0 i) (is.1 i) (readers.Client (pair i).0) (pair i).1
  read_is max e is allowed = elim is [ ]

  -- it is given up
  pub cancel_is : (code : ℤ) (e : Event) → is_live r.life ≡ true → IsAsked (Cancels c code) e
      → AllowedClient s host epoch l e → e ≡ events.Cancelled c code (Ok tt)
  cancel_is code (events.Cancelled d told got) living is allowed =
      let got_is : ◌≡◌ {A = Result (Unit {0}) NotOpen} got (Ok tt) =
      allowed.2 ∙ ap (λ (n : CallName). done_where (is_call (λ k. is_live k.life) (own_call l n))) is.0
      ∙ ap (λ (o : Option CallRecord). done_where (is_call (λ k. is_live k.life) o)) own ∙ ap done_where living in
      λ i. events.Cancelled (is.0 i) (is.1 i) (got_is i)
  cancel_is code e living is allowed = elim is [ ]
