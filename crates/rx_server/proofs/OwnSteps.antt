-- A message for its channel's live call, or that starts one, at a server.
use Rattle.std.proofs.Common.{◌≡◌, ◌<◌, ◌≤◌, ◌&&◌, ℕ, if◌then◌else◌, not, nat_lt, Bool, true, false}
use Rattle.std.proofs.Common.{List, Option, Some}
use Rattle.std.proofs.Common.{refl, ◌∙◌, ap, sym, subst, arith}
use Rattle.std.proofs.lemmas.Bool.Decides.{nat_tests}
use Rattle.rx_model.specs.declared.answers.Took.{Took}
use Rattle.rx_model.specs.declared.answers.Took.TheVariants as tooks
use Rattle.rx_model.specs.declared.names.CallName.{CallName}
use Rattle.rx_model.specs.declared.wire.TheConstants.{LAST_SEQ}
use Rattle.rx_model.specs.Message.{Message}
use Rattle.rx_model.specs.Names.{channel_of, connection_of}
use Rattle.rx_rules.specs.After.{taken_with}
use Rattle.rx_rules.specs.Classes.{Class}
use Rattle.rx_rules.specs.Judging.{Facts, facts_of, live_row, opened, own_row, server_row, side_row, took_named}
use Rattle.rx_rules.specs.Life.{after_later, is_active}
use Rattle.rx_rules.specs.Life as lives
use Rattle.rx_rules.specs.Looks.{CallRecord, ChannelLooks, Looks, call_at, call_named, channel_at}
use Rattle.rx_rules.specs.Looks.{fresh_channel, is_call, latest_name, on_life}
use Rattle.rx_rules.specs.Records.{entered, started_later, used}
use Rattle.rx_rules.specs.Setup.{FitsLimits, Kind, Setup, Server, Client, IsServer, receiving_window}
use Rattle.rx_history.proofs.Events.{call-by, calls-prepared}
use Rattle.rx_history.proofs.Openings.{channel_prepared}
use Rattle.rx_history.proofs.Places.{is_none}
use Rattle.rx_node.specs.Node.{setup_of}
use Rattle.rx_node.proofs.Steps.ChannelSteps.{IsThere, channel_started}
use Rattle.rx_node.proofs.KeptKeys.{key_on_channel}
use Rattle.rx_node.proofs.Steps.OwingSteps.{key_there}
use Rattle.rx_server.specs.Server.{ServerState, Serves}
use Rattle.rx_server.specs.Taking.{HasNoPlace, IsOwnActive, IsReady, Opening, Passes, Takes, TakesLive}
use Rattle.rx_server.proofs.Serving.{serves_unused}
use Rattle.rx_server.proofs.TakingLaws.{LetThrough, answered_its, fresh_there, let_through, opens_its, taken_its}

-- a window is below the greatest seq
pub window_low : (class : List ℕ → Class) (sv : ServerState) → FitsLimits sv.node.limits
    → receiving_window (setup_of class sv.node) ≤ LAST_SEQ
window_low class sv fits = (let low = fits.narrow in omega arith)

side-of : (kind : Kind) (f : Facts) (call : Took) → IsServer kind → side_row kind f call ≡ server_row f call
side-of (Server service nonces) f call is = refl
side-of (Client host epoch) f call is = absurd is

-- there is no place for its connection
pub own_full : (class : List ℕ → Class) (old new : ServerState) (l : Looks) (c : CallName) (m : Message)
    → IsServer old.node.kind → m.number ≡ c.number → Passes (setup_of class old.node) l c m
    → HasNoPlace (setup_of class old.node) l (connection_of c) → new ≡ old → Serves class old l
    → Takes class old new l c m tooks.Full
own_full class old new l c m server number passes none same serves =
    (let s = setup_of class old.node in
    let f : Facts = facts_of s l c m in
    let shown = let_through f passes in
    let own : Took = own_row s (opened s c l) c m in
    let full : server_row f own ≡ tooks.Full = rw (shown.known, none.unknown, none.full) refl in
    record {
      answered = sym (side-of old.node.kind f own server ∙ full);
      serves = subst (λ (sv : ServerState). Serves class sv (used (connection_of c) l)) (sym same)
          (serves_unused class old l (connection_of c) (is_none _ none.unknown) serves);
    })

module _ (class : List ℕ → Class) (old mid : ServerState) (l : Looks) (c : CallName) (m : Message) (key : ℕ)
    (server : IsServer old.node.kind) (chan : c.chan < 4) (number : m.number ≡ c.number)
    (passes : Passes (setup_of class old.node) l c m) (window : receiving_window (setup_of class old.node) ≤ LAST_SEQ)
    (same : setup_of class mid.node ≡ setup_of class old.node) (r : IsReady class old mid l c key) where
  abbrev s : Setup
  s = setup_of class old.node

  abbrev ready : Looks
  ready = used (connection_of c) (entered s (connection_of c) l)

  abbrev its : Looks
  its = opened s c ready

  abbrev above : Bool
  above = nat_lt (channel_at l (channel_of c)).number c.number

  place : IsThere ready (channel_of c)
  place = key_there class mid.node ready r.serves.mirrors key (channel_of c) r.channel

  number-ready : (channel_at ready (channel_of c)).number ≡ (channel_at l (channel_of c)).number
  number-ready = channel_prepared s tooks.Kept c l

  above-ready : nat_lt (channel_at ready (channel_of c)).number c.number ≡ above
  above-ready = ap (λ (n : ℕ). nat_lt n c.number) number-ready

  -- a call of a higher number may start
  pub may_open : above ≡ true → Opening (setup_of class mid.node) ready (channel_of c) c.number
  may_open high =
      subst (λ (t : Setup). Opening t ready (channel_of c) c.number) (sym same)
      (record {
        opens = opens_its s c m l server chan number passes r.has window place high;
        above = above-ready ∙ high;
      })

  its-above : above ≡ true → its ≡ started_later s c ready
  its-above high = ap (λ (b : Bool). if b then started_later s c ready else ready) (above-ready ∙ high)

  its-below : above ≡ false → its ≡ ready
  its-below low = ap (λ (b : Bool). if b then started_later s c ready else ready) (above-ready ∙ low)

  -- what it serves where it started
  pub serves_opened : (new : ServerState) → above ≡ true
      → Serves class new (started_later (setup_of class mid.node) c ready) → Serves class new its
  serves_opened new high serves =
      subst (λ (q : Looks). Serves class new q) (sym (its-above high))
      (subst (λ (t : Setup). Serves class new (started_later t c ready)) same serves)

  -- and where it lived
  pub serves_own : (new : ServerState) → above ≡ false → Serves class new ready → Serves class new its
  serves_own new low serves = subst (λ (q : Looks). Serves class new q) (sym (its-below low)) serves

  -- it is its channel's latest then, and active
  pub owns_opened : above ≡ true → IsOwnActive its key c
  owns_opened high =
      subst (λ (q : Looks). IsOwnActive q key c) (sym (its-above high))
      (record {
        channel =
            (let there = key_on_channel ended (channel_of c) (λ q. fresh_channel c.number) key (channel_of c)
            (record { conn = r.channel.conn; there = r.channel.there; is = r.channel.is }) in
            record { conn = there.conn; there = there.there; is = there.is });
        latest = ap (λ (q : ChannelLooks). call_named (channel_of c) q.number)
            (channel_started s lives.Waiting c ended
            (record { conn = place.conn; there = place.there; within = place.within }));
        active = ap (λ (o : Option CallRecord). is_call (λ k. is_active k.life) o)
            (ap (λ (q : Looks). call_at q c) (sym (its-above high))
            ∙ fresh_there s c m l server chan number passes r.has window place high);
      })
    where
      ended : Looks
      ended = on_life (latest_name ready (channel_of c)) after_later ready

  same-numbers : (a b : ℕ) → nat_lt a b ≡ false → nat_lt b a ≡ false → a ≡ b
  same-numbers a b p q = grind (arith, nat_tests)

  either : (a b : Bool) → a ≡ false → (not a && not b) ≡ false → b ≡ true
  either true b is none = absurd (cc (is))
  either false true is none = refl
  either false false is none = absurd (cc (none))

  -- or was it before
  pub owns_own : above ≡ false → IsOwnActive its key c
  owns_own low =
      subst (λ (q : Looks). IsOwnActive q key c) (sym (its-below low))
      (record {
        channel = r.channel;
        latest = name;
        active = ap (λ (o : Option CallRecord). is_call (λ k. is_active k.life) o)
            (call-by c l ready (calls-prepared s tooks.Kept (connection_of c) l)
            ∙ ap (call_at l) (sym name-before))
            ∙ either (facts_of s l c m).is_above (facts_of s l c m).is_active
            (ap (λ (n : ℕ). nat_lt (channel_at l (channel_of c)).number n) number ∙ low) shown.active;
      })
    where
      shown : LetThrough (facts_of s l c m)
      shown = let_through (facts_of s l c m) passes

      own : (channel_at l (channel_of c)).number ≡ c.number
      own =
          same-numbers (channel_at l (channel_of c)).number c.number low
          (ap (λ (n : ℕ). nat_lt n (channel_at l (channel_of c)).number) (sym number) ∙ shown.below)

      name-before : latest_name l (channel_of c) ≡ c
      name-before = ap (λ (n : ℕ). call_named (channel_of c) n) own

      name : latest_name ready (channel_of c) ≡ c
      name = ap (λ (n : ℕ). call_named (channel_of c) n) (number-ready ∙ own)

  -- the answer of the call is the rules'
  pub takes_own : (from new : ServerState) (k : CallRecord) (got : Took) → setup_of class from.node ≡ s
      → call_at its c ≡ Some k
      → TakesLive class from new its c k m got → Takes class old new l c m got
  takes_own from new k got kept there live =
      (let answer : got ≡ live_row s its k m m.body =
      live.answered ∙ ap (λ (t : Setup). live_row t its k m m.body) kept in
      let is : got ≡ took_named s l c m =
      answer ∙ answered_its s c m l server chan number passes r.has window k there in
      record {
        answered = is;
        serves = subst (λ (q : Looks). Serves class new q)
            (ap (λ (t : Setup). taken_with t got c m its) kept
            ∙ taken_its s c m l server chan number passes r.has window place got is) live.serves;
      })
