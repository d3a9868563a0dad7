-- A call that is given to a handler: the first that waits and may be, of those that are listed.
use Rattle.std.proofs.Common.{◌≡◌, ◌<◌, ◌&&◌, ◌||◌, ◌==◌, ◌/◌, ℕ, not, cond, if◌then◌else◌, Bool, true, false, List, []}
use Rattle.std.proofs.Common.{◌∷◌}
use Rattle.std.proofs.Common.{filter, Option, Some, None, option_map, refl, ◌∙◌, ap, sym, subst}
use Rattle.std.specs.Prelude.{option_and_then, slice_set}
use Rattle.std.specs.List.{cons_option, filter_map, find}
use Rattle.std.proofs.lemmas.Bool.{false≢true}
use Rattle.rx_model.specs.declared.event.Event.{Event}
use Rattle.rx_model.specs.declared.event.Event.TheVariants as events
use Rattle.rx_model.specs.declared.names.CallName.{CallName}
use Rattle.rx_model.specs.Names.{Channel, connection_of}
use Rattle.rx_model.proofs.NameLaws.{refuted}
use Rattle.rx_rules.specs.After.{looks}
use Rattle.rx_rules.specs.Classes.{Class}
use Rattle.rx_rules.specs.Life.{after_accept, is_waiting}
use Rattle.rx_rules.specs.Life as lives
use Rattle.rx_rules.specs.Looks.{CallRecord, Looks, is_call, is_proved, latest, latest_name, on_life}
use Rattle.rx_rules.specs.Rules.{accept_answer, can_enter}
use Rattle.rx_rules.specs.Setup.{Setup}
use Rattle.rx_rules.proofs.EveryLaws.{Every}
use Rattle.rx_history.proofs.Dimensions.Dims.{dims_life}
use Rattle.rx_history.proofs.LifeFalls.{accept_falls}
use Rattle.rx_node.specs.Mirrors.{IsChannel, IsKey, Mirrors}
use Rattle.rx_node.specs.Node.{KeepsNode, NodeState, setup_of}
use Rattle.rx_node.proofs.Steps.ChannelSteps.{latest_changed}
use Rattle.rx_node.proofs.OwedItems.{HasChannel, has_channel}
use Rattle.rx_server.specs.Handling.{IsFirst, enters_at, passes}
use Rattle.rx_queue.specs.Queue.{QueueState, is_ready}
use Rattle.rx_server.specs.Server.{Answered, FirstsStand, IsServing, ReadyStand, ServerState, Serves, waits, waits_at}
use Rattle.rx_server.proofs.EnteringCalls.{enters_is, waits_is}
use Rattle.rx_server.proofs.FirstsLaws.{firsts_without}
use Rattle.rx_server.proofs.Quiet.{served_allows}
use Rattle.rx_server.proofs.ReadyLaws.{ready_without}
use Rattle.rx_server.proofs.Serving.{answered_by, parts_stay, role_stays, serves_quiet, serving_with, setup_by}
use Rattle.rx_server.proofs.Serving.{there_without}
use Rattle.rx_rules.proofs.FindLaws.{find_passes}
use Rattle.rx_rules.proofs.LifeLaws.{accepted_waits}

-- ---- lists

-- the first that passes a test passes a weaker one
pub find_filtered : {X : Type 0} (p q : X → Bool) (xs : List X) → ((x : X) → q x ≡ true → p x ≡ true)
    → find q (filter p xs) ≡ find q xs
find_filtered p q [] weaker = refl
find_filtered p q (x ∷ xs) weaker =
    let rest : find q (filter p xs) ≡ find q xs = find_filtered p q xs weaker in
    (elim (p x) as (λ b. p x ≡ b → find q (cond b (x ∷ filter p xs) (filter p xs)) ≡ find q (x ∷ xs)) [
      | true ↦ λ is. ap (λ (o : Option _). cond (q x) (Some x) o) rest
      | false ↦ λ is. (
          let other : q x ≡ false = refuted (q x) (λ yes. false≢true (sym is ∙ weaker x yes)) in
          rest ∙ ap (λ (b : Bool). cond b (Some x) (find q xs)) (sym other))
    ]) refl

-- the first of what a map gives is what it gives of the first
pub find_mapped : {K Y : Type 0} (f : K → Option Y) (q : Y → Bool) (xs : List K)
    → find q (filter_map f xs) ≡ option_and_then f (find (λ x. passes q (f x)) xs)
find_mapped f q [] = refl
find_mapped f q (x ∷ xs) = of (f x) refl (find_mapped f q xs)
  where
    of : (o : Option _) → f x ≡ o → find q (filter_map f xs) ≡ option_and_then f (find (λ x. passes q (f x)) xs)
        → find q (cons_option o (filter_map f xs))
        ≡ option_and_then f (cond (passes q o) (Some x) (find (λ x. passes q (f x)) xs))
    of None is rest = rest
    of (Some y) is rest = (elim (q y) as (λ b. cond b (Some y) (find q (filter_map f xs))
        ≡ option_and_then f (cond b (Some x) (find (λ x. passes q (f x)) xs))) [
          | true ↦ sym is
          | false ↦ rest
        ])

-- ---- the answer

enters-waits : (w p : Bool) → (w && p) ≡ true → w ≡ true
enters-waits true p is = refl
enters-waits false p is = is

-- the rules' answer, by the first channel that is listed
pub accepts_first : (s : Setup) (l : Looks) (firsts : List ℕ) (got : Option ℕ) → FirstsStand firsts l
    → IsFirst s l firsts got → option_and_then (waits_at l) got ≡ accept_answer s l
accepts_first s l firsts got stands is =
    ap (option_and_then (waits_at l)) is
    ∙ sym (find_mapped (waits_at l) (can_enter s l) firsts)
    ∙ ap (λ (cs : List CallName). find (can_enter s l) cs) stands.order
    ∙ find_filtered (waits l) (can_enter s l) l.firsts
    (λ c yes. enters-waits (waits l c) (not s.class.challenges || is_proved l (connection_of c)) yes)

-- the call of the channel that was found waits
pub first_waits : (s : Setup) (l : Looks) (firsts : List ℕ) (key : ℕ) (ch : Channel) → IsChannel l key ch
    → IsFirst s l firsts (Some key) → waits l (latest_name l ch) ≡ true
first_waits s l firsts key ch at is =
    enters-waits (waits l (latest_name l ch)) (not s.class.challenges || is_proved l ch.connection)
    (sym (enters_is s l key ch at) ∙ find_passes (enters_at s l) firsts key (sym is))

-- and is the answer
pub accepts_its : (s : Setup) (l : Looks) (firsts : List ℕ) (key : ℕ) (ch : Channel) → IsChannel l key ch
    → FirstsStand firsts l → IsFirst s l firsts (Some key) → Some (latest_name l ch) ≡ accept_answer s l
accepts_its s l firsts key ch at stands is =
    sym (waits_is l key ch at
    ∙ ap (λ (b : Bool). if b then Some (latest_name l ch) else None) (first_waits s l firsts key ch at is))
    ∙ accepts_first s l firsts (Some key) stands is

-- ---- behind it

-- it waits no longer
pub accepted_not : (l : Looks) (key : ℕ) (ch : Channel) → IsChannel l key ch
    → waits_at (on_life (latest_name l ch) after_accept l) key ≡ None
accepted_not l key ch at =
    waits_is (on_life (latest_name l ch) after_accept l) key ch
    (record { conn = at.conn; there = at.there; is = at.is })
    ∙ ap (λ (b : Bool). if b then Some (latest_name l ch) else None)
    (ap (λ (o : Option CallRecord). is_call (λ k. is_waiting k.life) o)
    (latest_changed l ch (latest_name l ch) (λ k. record k { life = after_accept k.life }) (λ k. refl) refl)
    ∙ of (latest l ch))
  where
    accepted : CallRecord → CallRecord
    accepted k = record k { life = after_accept k.life }

    of : (o : Option CallRecord) → is_call (λ k. is_waiting k.life) (option_map accepted o) ≡ false
    of None = refl
    of (Some k) = accepted_waits k.life

module _ (class : List ℕ → Class) (sv : ServerState) (new : NodeState) (key : ℕ) (firsts : QueueState)
    (kept : KeepsNode sv.node new)
    (is_key : IsKey sv.node key) (without : firsts.order ≡ filter (λ k. not (k == key)) sv.firsts.order)
    (cleared : firsts.ready ≡ slice_set sv.firsts.ready key None)
    (steps : (l : Looks) (ch : Channel) → Mirrors class sv.node l → IsChannel l key ch
    → Mirrors class new (on_life (latest_name l ch) after_accept l)) where
  abbrev made : ServerState
  made = record { node = new; service = sv.service; nonce = sv.nonce; firsts = firsts }

  accepted-serves : (l : Looks) (ch : Channel) → IsChannel l key ch → Serves class sv l
      → Serves class made (on_life (latest_name l ch) after_accept l)
  accepted-serves l ch at serves =
      let quiet = serves_quiet class sv new l (on_life (latest_name l ch) after_accept l) (role_stays sv.node new kept)
      (dims_life (latest_name l ch) after_accept l accept_falls)
      (record { firsts = refl; entered = refl; proved = refl })
      (steps l ch serves.mirrors at) serves in
      record {
        mirrors = quiet.mirrors;
        nonce = quiet.nonce;
        firsts = subst (λ (keys : List ℕ). FirstsStand keys (on_life (latest_name l ch) after_accept l)) (sym without)
            (firsts_without sv.firsts.order key (on_life (latest_name l ch) after_accept l) (accepted_not l key ch at)
            quiet.firsts);
        ready = ready_without (class new.secret).challenges sv.firsts firsts
            (on_life (latest_name l ch) after_accept l) key without cleared quiet.ready;
      }

  channel-of : (l : Looks) → Serves class sv l → HasChannel l key
  channel-of l serves = has_channel l key (subst (λ (k : ℕ). key / 4 < k) serves.mirrors.conns.conns is_key)

  -- the call of that channel is given to a handler
  pub accepted_answers : (c : CallName) → IsServing class sv
      → ((l : Looks) → Serves class sv l → IsFirst (setup_of class sv.node) l sv.firsts.order (Some key))
      → ((l : Looks) (ch : Channel) → Mirrors class sv.node l → IsChannel l key ch → c ≡ latest_name l ch)
      → Answered class sv made (events.Accepted (Some c))
  accepted_answers c serving first named =
      answered_by class sv made (events.Accepted (Some c))
      (setup_by class sv.node new (parts_stay sv.node new kept))
      (λ h stands. (
      let l : Looks = looks (setup_of class sv.node) h in
      let its = channel-of l stands.serves in
      let name = named l its.channel stands.serves.mirrors its.at in (
        served_allows sv class l (events.Accepted (Some c)) serving.server
            (ap (λ (d : CallName). Some d) name
            ∙ accepts_its (setup_of class sv.node) l sv.firsts.order key its.channel its.at stands.serves.firsts
            (first l stands.serves)),
        subst (λ (d : CallName). Serves class made (on_life d after_accept l)) (sym name)
            (accepted-serves l its.channel its.at stands.serves),
      )))

  -- it serves on
  pub accepted_serving : IsServing class sv → IsServing class made
  accepted_serving serving =
      let its = channel-of serving.looks serving.serves in
      serving_with class sv new (on_life (latest_name serving.looks its.channel) after_accept serving.looks) firsts
      (parts_stay sv.node new kept) (there_without sv.node key sv.firsts.order firsts.order without serving.there)
      (accepted-serves serving.looks its.channel its.at serving.serves) serving

-- ---- none may be

-- the answer is none
pub accepted_none : (class : List ℕ → Class) (sv : ServerState) → IsServing class sv
    → ((l : Looks) → Serves class sv l → IsFirst (setup_of class sv.node) l sv.firsts.order None)
    → Answered class sv sv (events.Accepted None)
accepted_none class sv serving first =
    answered_by class sv sv (events.Accepted None) refl
    (λ h stands. (
    let l : Looks = looks (setup_of class sv.node) h in (
      served_allows sv class l (events.Accepted None) serving.server
          (accepts_first (setup_of class sv.node) l sv.firsts.order None stands.serves.firsts (first l stands.serves)),
      stands.serves,
    )))

in-order : (n : NodeState) (q : QueueState) (keys : List ℕ) (key : ℕ) → Every (IsKey n) keys
    → find (is_ready q) keys ≡ Some key → IsKey n key
in-order n q [] key all is = absurd (cc (is))
in-order n q (k ∷ keys) key all is = of (is_ready q k) is (λ rest. in-order n q keys key all.1 rest)
  where
    of : (b : Bool) → cond b (Some k) (find (is_ready q) keys) ≡ Some key
        → (find (is_ready q) keys ≡ Some key → IsKey n key) → IsKey n key
    of true own rest = (let same : k ≡ key = cc (own) in subst (λ (j : ℕ). IsKey n j) same all.0)
    of false found rest = rest found

-- the first that is ready of channels that are there is there
pub found_there : (n : NodeState) (q : QueueState) (key : ℕ) → Every (IsKey n) q.order
    → find (is_ready q) q.order ≡ Some key → IsKey n key
found_there n q key there found = in-order n q q.order key there found

-- ---- some are held

module _ (class : List ℕ → Class) (sv : ServerState) (firsts : QueueState) (order : firsts.order ≡ sv.firsts.order)
    (stands : (l : Looks) → Mirrors class sv.node l → ReadyStand (class sv.node.secret).challenges sv.firsts l
    → ReadyStand (class sv.node.secret).challenges firsts l) where
  abbrev holding : ServerState
  holding = record sv { firsts = firsts }

  held-serves : (l : Looks) → Serves class sv l → Serves class holding l
  held-serves l serves =
      record {
        mirrors = serves.mirrors;
        nonce = serves.nonce;
        firsts = subst (λ (keys : List ℕ). FirstsStand keys l) (sym order) serves.firsts;
        ready = stands l serves.mirrors serves.ready;
      }

  -- it serves on
  pub held_serving : IsServing class sv → IsServing class holding
  held_serving is =
      record {
        server = is.server;
        fits = is.fits;
        looks = is.looks;
        serves = held-serves is.looks is.serves;
        there = subst (λ (keys : List ℕ). Every (IsKey sv.node) keys) (sym order) is.there;
      }

  -- and answers what it answers then
  pub held_answers : (new : ServerState) (e : Event) → Answered class holding new e → Answered class sv new e
  held_answers new e answers h stood =
      answers h
      (record { legal = stood.legal; serves = held-serves (looks (setup_of class sv.node) h) stood.serves })
