-- A server turns a message away.
use Rattle.std.proofs.Common.{◌≡◌, ◌==◌, ℕ, pos, if◌then◌else◌, nat_lt, Bool, true, false, List, refl}
use Rattle.std.proofs.Common.{◌∙◌, ap, sym, subst, arith}
use Rattle.std.proofs.lemmas.Bool.Decides.{nat_tests}
use Rattle.rx_model.specs.declared.answers.Took.{Took}
use Rattle.rx_model.specs.declared.answers.Took.TheVariants as tooks
use Rattle.rx_model.specs.declared.names.CallName.{CallName}
use Rattle.rx_model.specs.Body.{Body}
use Rattle.rx_model.specs.Body as bodies
use Rattle.rx_model.specs.Message.{Message}
use Rattle.rx_model.specs.Strays.{is_stray}
use Rattle.rx_model.specs.Names.{Channel, channel_of, connection_of}
use Rattle.rx_rules.specs.After.{prepared, stopped_all, taken_over, taken_stopped, taken_with}
use Rattle.rx_rules.specs.Classes.{Class}
use Rattle.rx_rules.specs.Judging.{facts_of}
use Rattle.rx_rules.specs.Life.{Life, after_code}
use Rattle.rx_rules.specs.Looks.{ChannelLooks, Looks, call_at, call_named, channel_at, latest, latest_name, on_channel}
use Rattle.rx_rules.specs.Looks.{on_life}
use Rattle.rx_rules.specs.Records.{used}
use Rattle.rx_rules.specs.Setup.{Kind, Setup, Server, Client, IsServer}
use Rattle.rx_history.proofs.Dimensions.Dims.{dims_channel, dims_life}
use Rattle.rx_history.proofs.Dimensions.DimsTaken.{with_dims}
use Rattle.rx_history.proofs.LifeFalls.{Falls}
use Rattle.rx_history.proofs.Openings.{channel_prepared}
use Rattle.rx_history.proofs.Places.{is_none}
use Rattle.rx_node.specs.Mirrors.{Mirrors}
use Rattle.rx_node.specs.Node.{NodeState, setup_of}
use Rattle.rx_server.specs.Server.{IsServerOf, ServerState, Serves}
use Rattle.rx_server.specs.Taking.{HasNoPlace, RowIs, Takes}
use Rattle.rx_node.specs.Steps.{stopped_by}
use Rattle.rx_server.specs.Turned.{turned_of}
use Rattle.rx_server.specs.declared.server.taking.Turned.TheVariants as turns
use Rattle.rx_server.proofs.RestLaws.{rests_channel, with_rests}
use Rattle.rx_server.proofs.Serving.{SameRole, aborting, serves_quiet, serves_unused}
use Rattle.rx_server.proofs.TurnedRows.{IsPlain, Says, row_no_place, row_plain, row_says}

-- a server of a service is a server
pub is_server : (kind : Kind) (service : ℕ) → IsServerOf kind service → IsServer kind
is_server (Server service nonces) n is = tt
is_server (Client host epoch) n is = is

-- what a channel owes changes
pub serves_owing : (class : List ℕ → Class) (sv : ServerState) (new : NodeState) (l : Looks) (ch : Channel)
    (f : ChannelLooks → ChannelLooks) → ((q : ChannelLooks) → (f q).number ≡ q.number) → SameRole sv.node new
    → Mirrors class new (on_channel ch f l) → Serves class sv l
    → Serves class (record sv { node = new }) (on_channel ch f l)
serves_owing class sv new l ch f keeps role mirrors serves =
    serves_quiet class sv new l (on_channel ch f l) role (dims_channel ch f l keeps) (rests_channel ch f l) mirrors
    serves

-- the life of a call falls
pub serves_life : (class : List ℕ → Class) (sv : ServerState) (new : NodeState) (l : Looks) (c : CallName)
    (f : Life → Life) → ((x : Life) → Falls x (f x)) → SameRole sv.node new → Mirrors class new (on_life c f l)
    → Serves class sv l
    → Serves class (record sv { node = new }) (on_life c f l)
serves_life class sv new l c f falls role mirrors serves =
    serves_quiet class sv new l (on_life c f l) role (dims_life c f l falls)
    (record { firsts = refl; entered = refl; proved = refl }) mirrors serves

module _ (class : List ℕ → Class) (old new : ServerState) (l : Looks) (c : CallName) (m : Message) (row : Took) where
  -- there is no place for its connection
  pub takes_full : IsServer old.node.kind → m.number ≡ c.number → RowIs (setup_of class old.node) l c m row
      → (row ≡ tooks.Strange → ⊥) → HasNoPlace (setup_of class old.node) l (connection_of c) → new ≡ old
      → Serves class old l → Takes class old new l c m tooks.Full
  takes_full server number rows other none same serves =
      record {
        answered = row_no_place (setup_of class old.node) l c m row number rows server other none.unknown none.full;
        serves = subst (λ (sv : ServerState). Serves class sv (used (connection_of c) l)) (sym same)
            (serves_unused class old l (connection_of c) (is_none _ none.unknown) serves);
      }

-- ---- rows that reach no call

-- what such a row changes beside the use of its connection
aside-plain : (row : Took) → turned_of row ≡ turns.Aside → IsPlain row
aside-plain tooks.NoRoom is = absurd (cc (is))
aside-plain tooks.Busy is = absurd (cc (is))
aside-plain _ is = tt

aside-serves : (class : List ℕ → Class) (new : ServerState) (s : Setup) (l : Looks) (c : CallName)
    (m : Message) (row : Took)
    → turned_of row ≡ turns.Aside → Says (facts_of s l c m) row → Serves class new (used (connection_of c) l)
    → Serves class new (taken_with s row c m (prepared s row (connection_of c) l))
aside-serves class new s l c m tooks.Strange is says serves = serves
aside-serves class new s l c m tooks.Old is says serves = serves
aside-serves class new s l c m tooks.Stopped is says serves = absurd (cc (is))
aside-serves class new s l c m tooks.Over is says serves = absurd (cc (is))
aside-serves class new s l c m tooks.NoRoom is says serves = absurd (cc (is))
aside-serves class new s l c m tooks.Busy is says serves = absurd (cc (is))
aside-serves class new s l c m tooks.Full is says serves = absurd says
aside-serves class new s l c m tooks.Kept is says serves = absurd says
aside-serves class new s l c m tooks.Repeat is says serves = absurd says
aside-serves class new s l c m tooks.Beyond is says serves = absurd says
aside-serves class new s l c m tooks.Clash is says serves = absurd says
aside-serves class new s l c m tooks.NoSlot is says serves = absurd says
aside-serves class new s l c m tooks.Heard is says serves = absurd says
aside-serves class new s l c m tooks.Unserved is says serves = absurd says
aside-serves class new s l c m tooks.Foreign is says serves = absurd says
aside-serves class new s l c m (tooks.Bad bad) is says serves = absurd says

-- none
pub takes_aside : (class : List ℕ → Class) (old new : ServerState) (l : Looks) (c : CallName) (m : Message) (row : Took)
    → IsServer old.node.kind → m.number ≡ c.number → RowIs (setup_of class old.node) l c m row
    → turned_of row ≡ turns.Aside → Serves class new (used (connection_of c) l)
    → Takes class old new l c m row
takes_aside class old new l c m row server number rows is serves =
    (let s = setup_of class old.node in
    record {
      answered = row_plain s l c m row number rows server (aside-plain row is);
      serves = aside-serves class new s l c m row is (row_says (facts_of s l c m) row rows) serves;
    })

-- calls stop
stopped-is : (c : CallName) (m : Message) (body : Body) (l : Looks) → is_stray m body ≡ true → m.number ≡ c.number
    → stopped_by body (connection_of c) l ≡ taken_stopped c body l
stopped-is c m (bodies.Abort code) l is number =
    ap (λ (b : Bool). if b then stopped_all (connection_of c) code l else on_life c (after_code code) l)
    (sym (ap (λ (n : ℕ). n == 0) (sym number) ∙ is))
stopped-is c m bodies.Busy l is number = absurd (cc (is))
stopped-is c m (bodies.Ack a) l is number = absurd (cc (is))
stopped-is c m (bodies.Chunk payload) l is number = absurd (cc (is))
stopped-is c m bodies.AckAll l is number = absurd (cc (is))
stopped-is c m (bodies.Challenge bytes) l is number = absurd (cc (is))
stopped-is c m (bodies.Response bytes) l is number = absurd (cc (is))

pub takes_stopped : (class : List ℕ → Class) (old new : ServerState) (l : Looks) (c : CallName)
    (m : Message) (body : Body)
    → IsServer old.node.kind → m.body ≡ body → m.number ≡ c.number → RowIs (setup_of class old.node) l c m tooks.Stopped
    → Serves class new (stopped_by body (connection_of c) (used (connection_of c) l))
    → Takes class old new l c m tooks.Stopped
takes_stopped class old new l c m body server said number rows serves =
    (let s = setup_of class old.node in
    let stray : is_stray m m.body ≡ true = row_says (facts_of s l c m) tooks.Stopped rows in
    record {
      answered = row_plain s l c m tooks.Stopped number rows server tt;
      serves = subst (λ (q : Looks). Serves class new q)
          (ap (λ (b : Body). stopped_by b (connection_of c) (used (connection_of c) l)) (sym said)
          ∙ stopped-is c m m.body (used (connection_of c) l) stray number) serves;
    })

-- a channel owes again
same-numbers : (a b : ℕ) → nat_lt a b ≡ false → nat_lt b a ≡ false → a ≡ b
same-numbers a b p q = grind (arith, nat_tests)

pub takes_over : (class : List ℕ → Class) (old new : ServerState) (l : Looks) (c : CallName) (m : Message) (body : Body)
    → IsServer old.node.kind → m.body ≡ body → m.number ≡ c.number → RowIs (setup_of class old.node) l c m tooks.Over
    → Serves class new (taken_over (latest_name (used (connection_of c) l) (channel_of c)) body
    (latest (used (connection_of c) l) (channel_of c)) (used (connection_of c) l))
    → Takes class old new l c m tooks.Over
takes_over class old new l c m body server said number rows serves =
    (let s = setup_of class old.node in
    let after : Looks = used (connection_of c) l in
    let says = row_says (facts_of s l c m) tooks.Over rows in
    let own : (channel_at after (channel_of c)).number ≡ c.number =
    channel_prepared s tooks.Strange c l
    ∙ sym (same-numbers m.number (channel_at l (channel_of c)).number says.0 says.1) ∙ number in
    let name : latest_name after (channel_of c) ≡ c = ap (λ (n : ℕ). call_named (channel_of c) n) own in
    record {
      answered = row_plain s l c m tooks.Over number rows server tt;
      serves = subst (λ (q : Looks). Serves class new q)
          ((λ i. taken_over (name i) (sym said i) (call_at after (name i)) after)) serves;
    })

-- what a channel owes again
pub serves_again : (class : List ℕ → Class) (sv : ServerState) (new : NodeState) (l : Looks)
    (ch : Channel) (body : Body)
    → SameRole sv.node new
    → Mirrors class new (taken_over (latest_name l ch) body (latest l ch) l) → Serves class sv l
    → Serves class (record sv { node = new }) (taken_over (latest_name l ch) body (latest l ch) l)
serves_again class sv new l ch body role mirrors serves =
    (let m : Message = record (aborting (latest_name l ch) (pos 0)) { body = body } in
    let s = setup_of class sv.node in
    serves_quiet class sv new l (taken_over (latest_name l ch) body (latest l ch) l) role
    (with_dims s tooks.Over (latest_name l ch) m l refl) (with_rests s tooks.Over (latest_name l ch) m l refl refl)
    mirrors serves)

-- ---- which row it is

pub is_crowded : (row : Took) → turned_of row ≡ turns.Crowded → row ≡ tooks.NoRoom
is_crowded tooks.NoRoom is = refl
is_crowded tooks.Busy is = absurd (cc (is))
is_crowded tooks.Stopped is = absurd (cc (is))
is_crowded tooks.Over is = absurd (cc (is))
is_crowded _ is = absurd (cc (is))

pub is_busy : (row : Took) → turned_of row ≡ turns.Busy → row ≡ tooks.Busy
is_busy tooks.Busy is = refl
is_busy tooks.NoRoom is = absurd (cc (is))
is_busy tooks.Stopped is = absurd (cc (is))
is_busy tooks.Over is = absurd (cc (is))
is_busy _ is = absurd (cc (is))

pub is_stopped : (row : Took) → turned_of row ≡ turns.Stopped → row ≡ tooks.Stopped
is_stopped tooks.Stopped is = refl
is_stopped tooks.NoRoom is = absurd (cc (is))
is_stopped tooks.Busy is = absurd (cc (is))
is_stopped tooks.Over is = absurd (cc (is))
is_stopped _ is = absurd (cc (is))

pub is_over : (row : Took) → turned_of row ≡ turns.Over → row ≡ tooks.Over
is_over tooks.Over is = refl
is_over tooks.NoRoom is = absurd (cc (is))
is_over tooks.Busy is = absurd (cc (is))
is_over tooks.Stopped is = absurd (cc (is))
is_over _ is = absurd (cc (is))
