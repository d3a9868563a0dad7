-- Each event of a round leaves a world in which no calls live but some; and what its polls give of calls' streams is of
-- these.
use Rattle.std.proofs.Common.{◌≡◌, ◌==◌, ℕ, zero, suc, Bool, true, false, List, ◌∷◌, Option, Some, None, Ok, refl, inl}
use Rattle.std.proofs.Common.{inr, ◌∙◌, ap, sym, subst, Contains, if◌then◌else◌}
use Rattle.std.specs.Prelude.{slice_get, IfSome, IsSomeAnd}
use Rattle.rx_model.specs.declared.answers.Took.{Took}
use Rattle.rx_model.specs.declared.answers.Took.TheVariants as tooks
use Rattle.rx_model.specs.declared.event.Event.{Event}
use Rattle.rx_model.specs.declared.event.Event.TheVariants as events
use Rattle.rx_model.specs.declared.event.Noted.{Noted}
use Rattle.rx_model.specs.declared.names.CallName.{CallName}
use Rattle.rx_model.specs.declared.names.Host.{Host}
use Rattle.rx_model.specs.declared.wire.TheConstants.{CLIENT_INITIATED}
use Rattle.rx_model.specs.Body.{Body}
use Rattle.rx_model.specs.Body as bodies
use Rattle.rx_model.specs.Message.{Message, has_flag}
use Rattle.rx_model.specs.Names.{name_of}
use Rattle.rx_model.specs.Reading.{reading_of}
use Rattle.rx_model.proofs.NameLaws.{number_itself, same_number}
use Rattle.rx_rules.specs.After.{looks}
use Rattle.rx_rules.specs.CallLooks.{CallLooks, NodeView, call_row}
use Rattle.rx_rules.specs.Judging.{outer_row}
use Rattle.rx_rules.specs.Items.{poll_answer}
use Rattle.rx_rules.specs.Looks.{CallRecord, Looks, call_at}
use Rattle.rx_rules.specs.Life.{is_live}
use Rattle.rx_rules.specs.Rules.{Allowed, AllowedAt, Legal}
use Rattle.rx_rules.specs.Setup.{Setup, Kind, Client, FitsSetup, IsServer, Server, client_host, is_client, named}
use Rattle.rx_rules.specs.Sent.{is_all_given}
use Rattle.rx_history.specs.Sides.{IsClientAt, Node, side}
use Rattle.rx_law.specs.Worlds.{AreNodes, Carried, Datagram, IsFrom, bag, given_at}
use Rattle.rx_law.proofs.World.{and-some, gave-mine, if-some}
use Rattle.rx_events.specs.Events.{IsTaken}
use Rattle.rx_events.specs.Joint.{IsAllowedAt}
use Rattle.rx_wire.specs.Turns.{noted}
use Rattle.rx_plan.proofs.Allowed.{AreAllowed, sides_of}
use Rattle.rx_plan.proofs.Bags.{in_given, in_more}
use Rattle.rx_plan.proofs.Callers.{side_other, side_own}
use Rattle.rx_plan.proofs.Soundness.Sound.{IsCalm}
use Rattle.rx_plan.proofs.Soundness.SoundRounds.{clocked_calm}
use Rattle.rx_plan.proofs.Soundness.SoundTurns.{caller_calm, handler_calm}
use Rattle.rx_rounds.proofs.Growing.{AnswersNone, job_quiet, asked_quiet, clocked_quiet, taken_quiet}
use Rattle.rx_between.proofs.Each.EachStep.{Starts, is_start}
use Rattle.rx_between.proofs.Onward.{no-opening}
use Rattle.rx_between.proofs.Each.EachItem.{In}
use Rattle.rx_closing.proofs.Frame.{AreAmong}
use Rattle.rx_closing.proofs.Living.AmongSteps.{among_on}
use Rattle.rx_closing.proofs.Living.ClientOf.{flagged}
use Rattle.rx_closing.proofs.Polls.LiveGivings.{poll_lives}
use Rattle.rx_closing.proofs.Rounds.Chains.{Adds, adds_none, adds_one}
use Rattle.rx_closing.proofs.Rounds.EventParts.{kind_client, kind_other, server_host}
use Rattle.rx_closing.proofs.Rounds.EventParts.{taken_parts}
use Rattle.rx_closing.proofs.Rounds.RoundEvents.{Carries, IsNext}
use Rattle.rx_history.proofs.Plain.PlainBodies.{IsSent}

-- ---- what polls gave

-- DATA or an ACK of a call, which some node gave when the call was at work there
pub record SaidFor (nodes : List Node) (c : CallName) (h : List Noted) (d : Datagram) (m : Message) : Type 0 where
  pub index : ℕ
  pub node : Node
  pub there : slice_get nodes index ≡ Some node
  pub host : d.from ≡ node.host
  pub call : named node.setup d.to m ≡ c
  pub flag : has_flag CLIENT_INITIATED m.flags ≡ is_client node.setup.kind
  pub given : List Noted
  pub since : Adds given h
  pub record_ : CallRecord
  pub had : call_at (looks node.setup (side index given)) c ≡ Some record_
  pub lives : is_live record_.life ≡ true

-- whatever is said of a call's stream is said of one of these
pub record SaysFor (nodes : List Node) (cs : List CallName) (h : List Noted) (d : Datagram) (m : Message) : Type 0 where
  pub name : CallName
  pub inside : In name cs
  pub said : SaidFor nodes name h d m

abbrev pub SaysSome : List Node → List CallName → List Noted → Datagram → Type 0
SaysSome nodes cs h d = (m : Message) → reading_of d.bytes ≡ Ok m → IsSent m.body → SaysFor nodes cs h d m

-- also at a later moment
pub says_later : (nodes : List Node) (cs : List CallName) (h : List Noted) (e : Noted) (d : Datagram)
    → SaysSome nodes cs h d → SaysSome nodes cs (e ∷ h) d
says_later nodes cs h e d says m reads stream =
    (let f = says m reads stream in
    record {
      name = f.name;
      inside = f.inside;
      said = record {
        index = f.said.index;
        node = f.said.node;
        there = f.said.there;
        host = f.said.host;
        call = f.said.call;
        flag = f.said.flag;
        given = f.said.given;
        since = adds_one f.said.given h e f.said.since;
        record_ = f.said.record_;
        had = f.said.had;
        lives = f.said.lives;
      };
    })

-- a message that starts a call is DATA
start_stream : (v : NodeView) (m : Message) (body : Body) (k : CallLooks) (got : Took) → call_row v m body k ≡ got
    → is_start got ≡ true → IsSent body
start_stream v m (bodies.Chunk payload) k got row starts = tt
start_stream v m (bodies.Ack a) k got row starts = tt
start_stream v m bodies.AckAll k got row starts = absurd (by (is_all_given k.sent) row)
  where
    by : (b : Bool) → (if b then tooks.Heard else tooks.Strange) ≡ got → ⊥
    by true is = (let no : false ≡ true = ap is_start is ∙ starts in cc)
    by false is = (let no : false ≡ true = ap is_start is ∙ starts in cc)
start_stream v m _ k got row starts =
    absurd (let no : false ≡ true = ap is_start row ∙ starts in cc)

-- and one at a client saw it flagged as a server's
pub unflagged : (s : Setup) (kind : Kind) (l : Looks) (from : Host) (m : Message) → is_client kind ≡ true
    → outer_row s kind l from m ≡ None → has_flag CLIENT_INITIATED m.flags ≡ false
unflagged s (Server service nonces) l from m client none = absurd cc
unflagged s (Client host epoch) l from m client none = of (has_flag CLIENT_INITIATED m.flags) _ none
  where
    of : (a : Bool) (rest : Option Took) → (if a then Some tooks.Foreign else rest) ≡ None → a ≡ false
    of true rest is = absurd cc
    of false rest is = refl

-- ---- the induction

module _ (nodes : List Node) (are : AreNodes nodes) (cs : List CallName) where
  -- the rules allow each event, the network invents nothing, and no other calls live
  pub record IsCrowd (h : List Noted) : Type 0 where
    pub allowed : AreAllowed nodes h
    pub carried : Carried nodes h
    pub among : (j : ℕ) → IfSome (slice_get nodes j) (λ n. AreAmong cs (looks n.setup (side j h)))

  -- a datagram that was given, of one of these calls where it is of a call's stream
  pub record IsSome (h : List Noted) (d : Datagram) : Type 0 where
    pub inside : Contains (bag nodes h) d
    pub says : SaysSome nodes cs h d

  pub fits_at : (j : ℕ) (n : Node) → slice_get nodes j ≡ Some n → FitsSetup n.setup
  fits_at j n there = if-some (slice_get nodes j) n (λ m. FitsSetup m.setup) there (are.fits j)

  pub legal_at : (h : List Noted) (j : ℕ) (n : Node) → slice_get nodes j ≡ Some n → AreAllowed nodes h
      → Legal n.setup (side j h)
  legal_at h j n there allowed =
      if-some (slice_get nodes j) n (λ m. Legal m.setup (side j h)) there ((sides_of nodes h are allowed).legal j)

  pub among_at : (h : List Noted) (j : ℕ) (n : Node) → slice_get nodes j ≡ Some n → IsCrowd h
      → AreAmong cs (looks n.setup (side j h))
  among_at h j n there l =
      if-some (slice_get nodes j) n (λ m. AreAmong cs (looks m.setup (side j h))) there (l.among j)

  -- one more event
  pub crowd_more : (h : List Noted) (node : ℕ) (n : Node) (e : Event) → IsNext nodes h node n e
      → IfSome (slice_get nodes node) (λ m. IsFrom (bag nodes h) m.host e)
      → ((d : CallName) (r : CallRecord) → Starts n.setup (looks n.setup (side node h)) e d r → In d cs) → IsCrowd h
      → IsCrowd (noted node e ∷ h)
  crowd_more h node n e next from starts l =
      record {
        allowed = (allowed, l.allowed);
        carried = (from, l.carried);
        among = λ j. by j (node == j) refl;
      }
    where
      allowed : IsAllowedAt nodes h node e
      allowed =
          subst (λ (o : Option Node). IsSomeAnd o (λ m. Allowed m.setup (looks m.setup (side node h)) e))
          (sym next.there) next.allowed

      here : AreAmong cs (looks n.setup (e ∷ side node h))
      here =
          among_on n.setup (side node h) e cs (fits_at node n next.there)
          (next.allowed, legal_at h node n next.there l.allowed) starts (among_at h node n next.there l)

      by : (j : ℕ) (b : Bool) → (node == j) ≡ b
          → IfSome (slice_get nodes j) (λ m. AreAmong cs (looks m.setup (side j (noted node e ∷ h))))
      by j true same =
          subst (λ (i : ℕ). IfSome (slice_get nodes i) (λ m. AreAmong cs (looks m.setup (side i (noted node e ∷ h)))))
          (same_number node j same)
          (subst (λ (o : Option Node). IfSome o (λ m. AreAmong cs (looks m.setup (side node (noted node e ∷ h)))))
          (sym next.there)
          (subst (λ (es : List Event). AreAmong cs (looks n.setup es)) (sym (side_own node e h)) here))
      by j false other =
          subst (λ (es : List Event). IfSome (slice_get nodes j) (λ m. AreAmong cs (looks m.setup es)))
          (sym (side_other j node e h (λ is. (
          let yes : (node == j) ≡ true = subst (λ (i : ℕ). (node == i) ≡ true) is (number_itself node) in
          absurd (let no : false ≡ true = sym other ∙ yes in cc))))) (l.among j)

  -- one that takes no datagram and makes no call
  crowd_calm : (h : List Noted) (node : ℕ) (n : Node) (e : Event) → IsNext nodes h node n e → IsCalm e → AnswersNone e
      → IsCrowd h → IsCrowd (noted node e ∷ h)
  crowd_calm h node n e next calm none l =
      crowd_more h node n e next (of (slice_get nodes node)) (λ d r new. absurd (no_start d r new)) l
    where
      from : (ds : List Datagram) (host : Host) (e : Event) → IsCalm e → IsFrom ds host e
      from ds host (events.Taken sender bytes got) calm = elim calm [ ]
      from ds host e calm = tt

      of : (o : Option Node) → IfSome o (λ m. IsFrom (bag nodes h) m.host e)
      of None = tt
      of (Some m) = from (bag nodes h) m.host e calm

      no_start : (d : CallName) (r : CallRecord) → Starts n.setup (looks n.setup (side node h)) e d r → ⊥
      no_start d r (name, inl opens) = subst IsCalm opens.takes.judges.is calm
      no_start d r (name, inr made) = subst AnswersNone made.event none

  -- what a poll gives
  gives_some : (h : List Noted) (node : ℕ) (n : Node) (to : Host) (bytes : List ℕ)
      → IsNext nodes h node n (events.Polled (Some (to, bytes))) → IsCrowd h
      → IsSome (noted node (events.Polled (Some (to, bytes))) ∷ h) (record { from = n.host; to = to; bytes = bytes })
  gives_some h node n to bytes next l =
      record {
        inside =
            subst (λ (o : Option Node). Contains (given_at o
            (events.Polled (Some (to, bytes))) (bag nodes h)) (record { from = n.host; to = to; bytes = bytes }))
            (sym next.there) (in_given n to bytes (bag nodes h));
        says = λ m reads stream. (
            let lives = poll_lives n.setup (side node h) fits legal to bytes m reads stream (answers n.setup.kind
            next.allowed) in
            record {
              name = named n.setup to m;
              inside = among_at h node n next.there l (named n.setup to m) lives.call lives.there lives.living;
              said = record {
                index = node;
                node = n;
                there = next.there;
                host = refl;
                call = refl;
                flag =
                    (gave-mine n.setup (events.Polled (Some (to, bytes)) ∷ side node h) to bytes m fits
                    (next.allowed, legal) (inl (refl, refl)) reads).flag;
                given = h;
                since = adds_one h h (noted node (events.Polled (Some (to, bytes)))) (adds_none h);
                record_ = lives.call;
                had = lives.there;
                lives = lives.living;
              };
            });
      }
    where
      fits : FitsSetup n.setup
      fits = fits_at node n next.there

      legal : Legal n.setup (side node h)
      legal = legal_at h node n next.there l.allowed

      answers : (kind : Kind) → AllowedAt kind n.setup (looks n.setup (side node h)) (events.Polled (Some (to, bytes)))
          → poll_answer n.setup (looks n.setup (side node h)) ≡ Some (to, bytes)
      answers (Server service nonces) allowed = sym allowed
      answers (Client host epoch) allowed = sym allowed

  -- a node's host is that of its kind, where it is a client
  home_of : (j : ℕ) (n : Node) → slice_get nodes j ≡ Some n → (host : Host) (epoch : ℕ)
      → n.setup.kind ≡ Client host epoch → host ≡ n.host
  home_of zero n there host epoch kind =
      absurd (subst IsServer kind (and-some (slice_get nodes 0) n (λ m. IsServer m.setup.kind) there are.server))
  home_of (suc j) n there host epoch kind =
      subst (IsClientAt n.host) kind
      (if-some (slice_get nodes (suc j)) n (λ m. IsClientAt m.host m.setup.kind) there (are.clients j))

  -- where it passes the rows in front, the node that takes it names the call
  pub named_for : (node : ℕ) (n : Node) (l : Looks) (d : Datagram) (m : Message) (from : Host)
      → slice_get nodes node ≡ Some n → from ≡ d.from → d.to ≡ n.host → (c : CallName) (h : List Noted)
      → SaidFor nodes c h d m → outer_row n.setup n.setup.kind l from m ≡ None → named n.setup from m ≡ c
  named_for node n l d m from there sender to c h said front = by (is_client n.setup.kind) refl
    where
      as_named : client_host n.setup.kind from ≡ client_host said.node.setup.kind d.to → named n.setup from m ≡ c
      as_named host = ap (λ (x : Host). name_of x m) host ∙ said.call

      by : (q : Bool) → is_client n.setup.kind ≡ q → named n.setup from m ≡ c
      by true kind =
          (let q = kind_client n.setup.kind kind in
          let down : is_client said.node.setup.kind ≡ false =
          sym said.flag ∙ unflagged n.setup n.setup.kind l from m kind front in
          let own : client_host n.setup.kind from ≡ n.host =
          ap (λ (x : Kind). client_host x from) q.1.1 ∙ home_of node n there q.0 q.1.0 q.1.1 in
          as_named (own ∙ sym to ∙ sym (server_host said.node.setup.kind d.to (kind_other said.node.setup.kind down))))
      by false kind =
          (let server : IsServer n.setup.kind = kind_other n.setup.kind kind in
          let up : is_client said.node.setup.kind ≡ true =
          sym said.flag ∙ flagged n.setup n.setup.kind l from m server front in
          let q = kind_client said.node.setup.kind up in
          as_named (server_host n.setup.kind from server ∙ sender ∙ said.host
          ∙ sym (home_of said.index said.node said.there q.0 q.1.0 q.1.1)
          ∙ sym (ap (λ (x : Kind). client_host x d.to) q.1.1)))

  -- a call that starts by what was given is the call
  starts_some : (h : List Noted) (node : ℕ) (n : Node) (d : Datagram) (e : Event) → IsNext nodes h node n e
      → IsTaken d.from d.bytes e → d.to ≡ n.host → IsSome h d → IsCrowd h → (b : CallName) (r : CallRecord)
      → Starts n.setup (looks n.setup (side node h)) e b r → In b cs
  starts_some h node n d e next is to one l b r (name, inr made) =
      absurd (subst AnswersNone made.event (taken_quiet d.from d.bytes e is))
  starts_some h node n d e next is to one l b r (name, inl opens) = by (is_client n.setup.kind) refl
    where
      same : (opens.takes.judges.from ≡ d.from) × (opens.takes.judges.bytes ≡ d.bytes)
      same = taken_parts d.from d.bytes e opens.takes.judges.from opens.takes.judges.bytes opens.takes.got is
          opens.takes.judges.is

      said : SaysFor nodes cs h d opens.takes.message
      said =
          one.says opens.takes.message (subst (λ (bs : List ℕ). reading_of bs ≡ Ok opens.takes.message) same.1
          opens.takes.judges.reads)
          (start_stream opens.takes.view opens.takes.message opens.takes.message.body _ opens.takes.got
          opens.takes.row opens.starts)

      by : (q : Bool) → is_client n.setup.kind ≡ q → In b cs
      by true kind =
          (let q = kind_client n.setup.kind kind in
          absurd (no-opening n.setup q.0 q.1.0 e (side node h) b r q.1.1
          (next.allowed, legal_at h node n next.there l.allowed) opens))
      by false kind =
          subst (λ (x : CallName). In x cs)
          (sym (sym opens.takes.judges.name
          ∙ named_for node n (looks n.setup (side node h)) d opens.takes.message opens.takes.judges.from next.there
          same.0 to
          said.name h said.said opens.takes.judges.front)) said.inside

  takes_some : (h : List Noted) (node : ℕ) (n : Node) (d : Datagram) (e : Event) → IsNext nodes h node n e
      → IsTaken d.from d.bytes e → d.to ≡ n.host → IsSome h d → IsCrowd h → IsCrowd (noted node e ∷ h)
  takes_some h node n d e next is to one l =
      crowd_more h node n e next
      (subst (λ (o : Option Node). IfSome o (λ m. IsFrom (bag nodes h) m.host e)) (sym next.there) (from e is))
      (starts_some h node n d e next is to one l) l
    where
      from : (f : Event) → IsTaken d.from d.bytes f → IsFrom (bag nodes h) n.host f
      from (events.Taken sender bytes got) there =
          subst (λ (x : Datagram). Contains (bag nodes h) x)
          (λ i. record { from = sym there.0 i; to = to i; bytes = sym there.1 i }) one.inside
      from f there = tt

  pub crowd_carried : Carries nodes IsSome IsCrowd
  crowd_carried =
      record {
        stays = λ h e d one.
            record { inside = in_more nodes e h d one.inside; says = says_later nodes cs h e d one.says };
        polls = λ h node n got next l. crowd_calm h node n (events.Polled got) next tt tt l;
        gives = gives_some;
        takes = takes_some;
        clocks = λ h node n now e next is l.
            crowd_calm h node n e next (clocked_calm now e is) (clocked_quiet now e is) l;
        serves = λ h n a e next is l. crowd_calm h 0 n e next (handler_calm a e is) (job_quiet a e is) l;
        calls = λ h node n a e next is l. crowd_calm h node n e next (caller_calm a e is) (asked_quiet a e is) l;
      }
