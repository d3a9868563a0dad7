-- A call of a server's that is followed by a later one had ended at its client: data is given of calls that are there,
-- and a client's call that lives is its channel's latest.
use Rattle.std.proofs.Common.{◌≡◌, ◌<◌, ◌≤◌, nat_lt, ℕ, is_some, true, List, [], ◌∷◌, Option, Some, None}
use Rattle.std.proofs.Common.{Ok, refl, ◌∙◌, ap, sym, subst, arith, inl, inr}
use Rattle.std.proofs.lemmas.Bool.{and_parts}
use Rattle.std.proofs.lemmas.Bool.Decides.{nat_tests}
use Rattle.rx_model.specs.declared.answers.Took.{Took}
use Rattle.rx_model.specs.declared.answers.Took.TheVariants as tooks
use Rattle.rx_model.specs.declared.event.Event.{Event}
use Rattle.rx_model.specs.declared.event.Event.TheVariants as events
use Rattle.rx_model.specs.declared.names.CallName.{CallName}
use Rattle.rx_model.specs.declared.names.Host.{Host}
use Rattle.rx_model.specs.Body.{Body}
use Rattle.rx_model.specs.Body as bodies
use Rattle.rx_model.specs.Message.{Message}
use Rattle.rx_model.specs.Names.{Channel, channel_of, connection_of}
use Rattle.rx_model.specs.Reading.{reading_of}
use Rattle.rx_rules.specs.After.{looks}
use Rattle.rx_rules.specs.Judging.{facts_of, is_data, opened, own_row, took_of}
use Rattle.rx_rules.specs.Life.{Life, is_live}
use Rattle.rx_rules.specs.Life as lives
use Rattle.rx_rules.specs.Looks.{CallRecord, Looks, call_at, channel_at, conn_at, is_call}
use Rattle.rx_rules.specs.Rules.{AllowedAt, Legal}
use Rattle.rx_rules.specs.Setup.{Setup, Kind, Server, Client, FitsSetup, named}
use Rattle.rx_rules.proofs.ConnsLaws.{number_of}
use Rattle.rx_history.specs.Streams.{end_of_life}
use Rattle.rx_law.specs.Worlds.{Gave}
use Rattle.rx_law.proofs.Asks.{data-is}
use Rattle.rx_history.proofs.ClientHistory.{client-calls}
use Rattle.rx_law.proofs.Joint.{gives-at, polled-is}
use Rattle.rx_history.proofs.Order.OrderlyHistory.{orderly_history}
use Rattle.rx_history.proofs.Laws.SoundLaws.{Below}
use Rattle.rx_between.specs.Agreed.{HasEnded}
use Rattle.rx_between.proofs.Each.EachEvent.{each_step}
use Rattle.rx_between.proofs.Each.EachStep.{CallStep, IsFollowedBy, Judges, is_own, is_start}
use Rattle.rx_between.proofs.GivenAcks.{before_silence}
use Rattle.rx_between.proofs.Lives.{IsClients}
use Rattle.rx_between.proofs.Onward.{row_named}
use Rattle.rx_between.proofs.OwnRows.{own_side}
use Rattle.rx_between.proofs.PollSays.{poll_says}
use Rattle.rx_between.proofs.Prepared.{prepared_number}
use Rattle.rx_between.proofs.ReadOut.{AreClients}
use Rattle.rx_history.proofs.Plain.PlainBodies.{IsSent}

-- ---- what a node gave is of calls that are there

-- a call that is there stays there
pub some_stays : (s : Setup) (h : List Event) (e : Event) (c : CallName) → FitsSetup s → Legal s (e ∷ h)
    → is_some (call_at (looks s h) c) ≡ true → is_some (call_at (looks s (e ∷ h)) c) ≡ true
some_stays s h e c fits legal there =
    of (call_at (looks s h) c) (call_at (looks s (e ∷ h)) c) (each_step s h e c fits legal) there
  where
    of : (a b : Option CallRecord) → CallStep s (looks s h) e c a b → is_some a ≡ true → is_some b ≡ true
    of None b step there = absurd cc
    of (Some a) None step there = absurd step
    of (Some a) (Some b) step there = refl

pub gave_there : (s : Setup) (h : List Event) (to : Host) (bytes : List ℕ) (m : Message) (payload : List ℕ)
    → FitsSetup s → Legal s h → reading_of bytes ≡ Ok m → m.body ≡ bodies.Chunk payload → Gave to bytes h
    → is_some (call_at (looks s h) (named s to m)) ≡ true
gave_there s [] to bytes m payload fits legal is_read chunk gave = absurd gave
gave_there s (e ∷ h) to bytes m payload fits legal is_read chunk (inr gave) =
    some_stays s h e (named s to m) fits legal (gave_there s h to bytes m payload fits legal.1 is_read chunk gave)
gave_there s (e ∷ h) to bytes m payload fits legal is_read chunk (inl gave) =
    let g = gives-at to bytes e gave in
    let answer = polled-is s.kind s (looks s h) g.0
    (subst (λ (x : Event). AllowedAt s.kind s (looks s h) x) g.1 legal.0) in
    let says = poll_says s h fits legal.1 to bytes m is_read (subst IsSent (sym chunk) tt) (sym answer ∙ g.2) in
    let was = before_silence (looks s h) (named s to m) says.call says.there in
    some_stays s h e (named s to m) fits legal (ap (λ (o : Option CallRecord). is_some o) was.there)

-- ---- what follows a call is data

pub taken_is : (kind : Kind) (s : Setup) (l : Looks) (from : Host) (bytes : List ℕ) (got : Took)
    → AllowedAt kind s l (events.Taken from bytes got) → got ≡ took_of s l from bytes
taken_is (Server service nonces) s l from bytes got allowed = allowed.1
taken_is (Client host epoch) s l from bytes got allowed = allowed.1

start_own : (got : Took) → is_start got ≡ true → is_own got ≡ true
start_own tooks.Kept is = refl
start_own tooks.NoSlot is = refl
start_own _ is = absurd cc

-- the message that starts a call whose number is above its channel's
pub starts_data : (s : Setup) (h : List Event) (e : Event) (d : CallName) (m : Message) (got : Took)
    → Legal s (e ∷ h) → Judges s (looks s h) e d m got → is_start got ≡ true
    → nat_lt (channel_at (looks s h) (channel_of d)).number d.number ≡ true
    → (payload : List ℕ) × (m.body ≡ bodies.Chunk payload)
starts_data s h e d m got legal j starts above =
    let l : Looks = looks s h in
    let f : CallName = named s j.from m in
    let answer = taken_is s.kind s l j.from j.bytes got
    (subst (λ (x : Event). AllowedAt s.kind s l x) j.is legal.0) in
    let row = row_named s l j.from j.bytes got m answer j.reads j.front in
    let own = own_side s.kind (facts_of s l f m) (own_row s (opened s f l) f m) got (start_own got starts) row in
    let over : nat_lt (channel_at l (channel_of f)).number f.number ≡ true =
    subst (λ (n : CallName). nat_lt (channel_at l (channel_of n)).number n.number ≡ true) (sym j.name) above in
    data-is m.body (and_parts (is_data m.body) _ (own.starts over)).0

-- the later call is of the same channel
pub later_on : (s : Setup) (l : Looks) (e : Event) (c : CallName) (f : IsFollowedBy s l e c)
    → channel_of c ≡ channel_of f.later
later_on s l e c f = ap channel_of f.latest

pub followed_data : (s : Setup) (h : List Event) (e : Event) (c : CallName) (f : IsFollowedBy s (looks s h) e c)
    → Legal s (e ∷ h) → (payload : List ℕ) × (f.message.body ≡ bodies.Chunk payload)
followed_data s h e c f legal =
    let l : Looks = looks s h in
    let number : c.number ≡ (channel_at l (channel_of f.later)).number =
    ap (λ (n : CallName). n.number) f.latest ∙ prepared_number s f.got l (channel_of f.later) in
    starts_data s h e f.later f.message f.got legal f.judges f.starts
    (subst (λ (n : ℕ). nat_lt n f.later.number ≡ true) number f.above)

-- ---- at the client

module _ (s : Setup) (host : Host) (epoch : ℕ) (kind : s.kind ≡ Client host epoch) (fits : FitsSetup s) where
  -- no call that is there comes later on its channel than one that lives
  none_later : (h : List Event) (c d : CallName) → Legal s h
      → is_call (λ k. is_live k.life) (call_at (looks s h) c) ≡ true → is_some (call_at (looks s h) d) ≡ true
      → channel_of d ≡ channel_of c → c.number < d.number → ⊥
  none_later h c d legal living there on above = of (call_at l d) refl there
    where
      l : Looks
      l = looks s h

      latest : number_of (conn_at l (connection_of c)) c.chan ≡ c.number
      latest = ((orderly_history s h legal).latest c living).number

      same : number_of (conn_at l (connection_of d)) d.chan ≡ number_of (conn_at l (connection_of c)) c.chan
      same = ap (λ (ch : Channel). number_of (conn_at l ch.connection) ch.chan) on

      of : (o : Option CallRecord) → call_at l d ≡ o → is_some o ≡ true → ⊥
      of None is there = absurd cc
      of (Some k) is there =
          (let low : d.number ≤ number_of (conn_at l (connection_of d)) d.chan =
          subst (λ (o : Option CallRecord). Below o d.number (number_of (conn_at l (connection_of d)) d.chan)) is
          ((client-calls s host epoch h kind fits legal).sound d).below in
          omega (arith, latest, same, low, above))

  -- so the earlier one ended
  pub earlier_ended : (h : List Event) (c d : CallName) → Legal s h → AreClients (call_at (looks s h) c)
      → is_some (call_at (looks s h) c) ≡ true → is_some (call_at (looks s h) d) ≡ true
      → channel_of d ≡ channel_of c → nat_lt c.number d.number ≡ true → HasEnded (call_at (looks s h) c)
  earlier_ended h c d legal are known there on above = of (call_at (looks s h) c) refl are known
    where
      higher : c.number < d.number
      higher = grind (arith, nat_tests)

      by_life : (k : CallRecord) (x : Life) → call_at (looks s h) c ≡ Some k → k.life ≡ x → IsClients x
          → HasEnded (Some k)
      by_life k (lives.Ended end) is life are = record { end = end; at = ap end_of_life life }
      by_life k lives.Calling is life are =
          absurd (none_later h c d legal
          (ap (is_call (λ k. is_live k.life)) is ∙ ap is_live life) there on higher)
      by_life k _ is life are = absurd are

      of : (o : Option CallRecord) → call_at (looks s h) c ≡ o → AreClients o → is_some o ≡ true → HasEnded o
      of None is are known = absurd cc
      of (Some k) is are known = by_life k k.life is refl are
