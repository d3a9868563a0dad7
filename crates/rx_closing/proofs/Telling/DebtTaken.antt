-- What a client gave of a call, other than its stream, comes to its server: the moment at which it is taken, and how
-- the server reads it.
use Rattle.std.proofs.Common.{◌≡◌, ◌==◌, ◌&&◌, if◌then◌else◌, not, ℕ, Bool, true, List, [], ◌∷◌, Some, None, refl, inl}
use Rattle.std.proofs.Common.{inr, ◌∙◌, ap, sym, subst}
use Rattle.std.specs.Prelude.{slice_get}
use Rattle.rx_model.specs.declared.answers.Took.TheVariants as tooks
use Rattle.rx_model.specs.declared.event.Noted.{Noted}
use Rattle.rx_model.specs.declared.names.CallName.{CallName}
use Rattle.rx_model.specs.declared.names.Host.{Host}
use Rattle.rx_model.specs.declared.wire.TheConstants.{CLIENT_INITIATED}
use Rattle.rx_model.specs.Body.{Body}
use Rattle.rx_model.specs.Message.{Message, has_flag}
use Rattle.rx_model.specs.Names.{name_of, same_host}
use Rattle.rx_model.proofs.NameLaws.{host_itself, number_itself}
use Rattle.rx_rules.specs.Classes.{Class}
use Rattle.rx_rules.specs.Judging.{is_for_servers, outer_row}
use Rattle.rx_rules.specs.Looks.{Looks}
use Rattle.rx_rules.specs.Setup.{Kind, Server, Setup, client_host, is_client, named}
use Rattle.rx_history.specs.Sides.{Node}
use Rattle.rx_law.specs.Worlds.{Datagram}
use Rattle.rx_plan.specs.Network.{delivers}
use Rattle.rx_plan.specs.Parts.{each}
use Rattle.rx_plan.specs.Stages.{Stage}
use Rattle.rx_between.proofs.Each.EachItem.{In}
use Rattle.rx_rounds.proofs.Rounded.{Made}
use Rattle.rx_closing.proofs.Messages.Arrives.{Meet, server_names}
use Rattle.rx_closing.proofs.Messages.Delivered.{FirstOf, TookAt, delivers_first, delivers_grow}
use Rattle.rx_closing.proofs.Rounds.Chains.{Adds, adds_both, adds_none}
use Rattle.rx_closing.proofs.Telling.OwedComes.{SaysDebt}

-- ---- one of several that are delivered

-- a node takes it between two stages
pub record TakenIn (n : Node) (j : ℕ) (d : Datagram) (s t : Stage) : Type 0 where
  pub before : Stage
  pub behind : Stage
  pub front : Adds s.history before.history
  pub back : Adds behind.history t.history
  pub took : TookAt j n d before.history behind.history
  pub took_adds : Adds before.history behind.history

-- it is one of the node's host
pub taken_in : (n : Node) (j : ℕ) (d : Datagram) (ds : List Datagram) → In d ds → same_host d.to n.host ≡ true
    → (s t : Stage) → slice_get s.nodes j ≡ Some n → Made (each delivers ds) s t → TakenIn n j d s t
taken_in n j d [] none here s t there made = absurd none
taken_in n j d (e ∷ ds) in_ here s t there made =
    by in_ (delivers_first e ds s t made)
    (λ low u there_ goes. taken_in n j d ds low here u t there_ goes)
  where
    by : In d (e ∷ ds) → FirstOf e ds s t
        → (In d ds → (u : Stage) → slice_get u.nodes j ≡ Some n → Made (each delivers ds) u t → TakenIn n j d u t)
        → TakenIn n j d s t
    by (inl same) f onward =
        let g = delivers_grow ds f.between t f.others in
        record {
          before = s;
          behind = f.between;
          front = adds_none s.history;
          back = record { more = g.more; is = g.is };
          took =
              (subst (λ (x : Datagram). same_host x.to n.host ≡ true → TookAt j n x s.history f.between.history)
              (sym same) (λ yes. (f.first.comes j n there).takes yes)) here;
          took_adds = record { more = f.first.more; is = f.first.grown };
        }
    by (inr low) f onward =
        let r = onward low f.between (ap (λ (u : Stage). slice_get u.nodes j) f.first.rest ∙ there) f.others in
        record {
          before = r.before;
          behind = r.behind;
          front =
              adds_both s.history f.between.history r.before.history
              (record { more = f.first.more; is = f.first.grown }) r.front;
          back = r.back;
          took = r.took;
          took_adds = r.took_adds;
        }

-- ---- a client's message at its server

server_past : (s : Setup) (service nonces : ℕ) (l : Looks) (from : Host) (m : Message) → s.kind ≡ Server service nonces
    → has_flag CLIENT_INITIATED m.flags ≡ true → is_for_servers s.class.challenges m.body ≡ true
    → m.service ≡ service → m.index ≡ s.class.index → outer_row s s.kind l from m ≡ None
server_past s service nonces l from m kind flag for serves index =
    ap (λ (q : Kind). outer_row s q l from m) kind
    ∙ of (has_flag CLIENT_INITIATED m.flags) (is_for_servers s.class.challenges m.body) (m.service == service)
    (m.index == s.class.index) flag for
    (ap (λ (n : ℕ). n == service) serves ∙ number_itself service)
    (ap (λ (n : ℕ). n == s.class.index) index ∙ number_itself s.class.index)
  where
    of : (a b x y : Bool) → a ≡ true → b ≡ true → x ≡ true → y ≡ true
        → (if not a then Some tooks.Foreign else if not b then Some tooks.Strange
        else if not (x && y) then Some tooks.Unserved else None) ≡ None
    of a b x y p q u v = rw (p, q, u, v) refl

-- it is for the server's host
pub says_here : (s : Setup) (c : CallName) (Sort : Body → Type 0) (server : Node) (service : ℕ) (d : Datagram)
    → SaysDebt s c Sort server.host service d → same_host d.to server.host ≡ true
says_here s c Sort server service d says =
    ap (λ (t : Host). same_host t server.host) says.to ∙ host_itself server.host

module _ (c : CallName) (k : ℕ) (client server : Node) (service nonces : ℕ) (h : List Noted)
    (meet : Meet c k client server service nonces h) (Sort : Body → Type 0)
    (for_servers : (challenges : Bool) (body : Body) → Sort body → is_for_servers challenges body ≡ true)
    (d : Datagram) (says : SaysDebt client.setup c Sort server.host service d) (from : d.from ≡ client.host) where
  -- the client's name of it
  own_name : name_of c.host says.message ≡ c
  own_name = sym (ap (λ (q : Kind). name_of (client_host q d.to) says.message) meet.client_is) ∙ says.name

  -- it comes through the rows in front
  pub debt_front : (l : Looks) → outer_row server.setup server.setup.kind l d.from says.message ≡ None
  debt_front l =
      server_past server.setup service nonces l d.from says.message meet.server_is
      (says.flag ∙ ap is_client meet.client_is)
      (for_servers server.setup.class.challenges says.message.body says.kind) says.for_it
      (says.index ∙ ap (λ (q : Class). q.index) (meet.client_open ∙ sym meet.server_open))

  -- as a message of the call
  pub debt_name : named server.setup d.from says.message ≡ c
  debt_name = server_names c k client server service nonces h meet d.from says.message (from ∙ meet.home) own_name

  -- the client names it so
  pub debt_own : (peer : Host) → named client.setup peer says.message ≡ c
  debt_own peer = ap (λ (q : Kind). name_of (client_host q peer) says.message) meet.client_is ∙ own_name
