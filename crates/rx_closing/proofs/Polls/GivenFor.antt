-- Who takes a datagram as of a call: none, where it says nothing of the call, or comes from the node's own side.
use Rattle.std.proofs.Common.{◌≡◌, ◌++◌, ◌&&◌, ◌==◌, not, if◌then◌else◌, ℕ, Bool, true, false, List, [], ◌∷◌, Option}
use Rattle.std.proofs.Common.{Some, None, refl, ap, sym, subst, ◌∙◌}
use Rattle.rx_model.specs.declared.answers.Took.{Took}
use Rattle.rx_model.specs.declared.answers.Took.TheVariants as tooks
use Rattle.rx_model.specs.declared.event.Event.{Event}
use Rattle.rx_model.specs.declared.names.CallName.{CallName}
use Rattle.rx_model.specs.declared.names.Host.{Host}
use Rattle.rx_model.specs.declared.wire.TheConstants.{CLIENT_INITIATED}
use Rattle.rx_model.specs.Message.{Message, has_flag}
use Rattle.rx_model.specs.Names.{name_of}
use Rattle.rx_rules.specs.Judging.{is_for_servers, outer_row}
use Rattle.rx_rules.specs.Looks.{Looks}
use Rattle.rx_rules.specs.Rules.{Legal}
use Rattle.rx_rules.specs.Setup.{Client, FitsSetup, Kind, Server, Setup, client_host, is_client, named}
use Rattle.rx_rules.proofs.EveryLaws.{Every}
use Rattle.rx_history.specs.Sides.{Node}
use Rattle.rx_law.proofs.World.{gave-mine}
use Rattle.rx_law.specs.Worlds.{Datagram}
use Rattle.rx_rules.specs.After.{looks}
use Rattle.rx_closing.proofs.Messages.Sifted.{IsOwn, Sifted, sifts_none, sifts_other, sifts_own}
use Rattle.rx_closing.proofs.Messages.TakesAll.{IsNotFor}
use Rattle.rx_closing.proofs.Polls.EndPolls.{IsHome}
use Rattle.rx_closing.proofs.Polls.NodeTurn.{IsGivenBy}
use Rattle.rx_closing.proofs.Polls.Polled.{EndPolled, IsHushed, NoStreamOf, NotOf, end_rests, end_works, name_in}
use Rattle.rx_closing.proofs.Rounds.RoundEvents.{every_weaker}

-- ---- datagrams among others

module _ (Own : Message → Type 0) (from to : Host) where
  -- where all are others
  pub sifts_all : (Else : Datagram → Type 0) (ds : List Datagram) → Every Else ds → Sifted Own Else from to ds []
  sifts_all Else [] all = sifts_none
  sifts_all Else (d ∷ ds) all = sifts_other d ds [] all.0 (sifts_all Else ds all.1)

  -- others before them, and behind them
  pub sifts_front : (Else : Datagram → Type 0) (xs ds : List Datagram) (ms : List Message) → Every Else xs
      → Sifted Own Else from to ds ms → Sifted Own Else from to (xs ++ ds) ms
  sifts_front Else [] ds ms all more = more
  sifts_front Else (x ∷ xs) ds ms all more =
      sifts_other x (xs ++ ds) ms all.0 (sifts_front Else xs ds ms all.1 more)

  pub sifts_behind : (Else : Datagram → Type 0) (ds ys : List Datagram) (ms : List Message)
      → Sifted Own Else from to ds ms → Every Else ys → Sifted Own Else from to (ds ++ ys) ms
  sifts_behind Else ds ys ms sifts_none all = sifts_all Else ys all
  sifts_behind Else ds ys ms (sifts_own bytes m ds1 ms1 reads own more) all =
      sifts_own bytes m (ds1 ++ ys) ms1 reads own (sifts_behind Else ds1 ys ms1 more all)
  sifts_behind Else ds ys ms (sifts_other d ds1 ms1 other more) all =
      sifts_other d (ds1 ++ ys) ms1 other (sifts_behind Else ds1 ys ms1 more all)

  -- of others that are others still
  pub sifts_more : (Else Other : Datagram → Type 0) → ((d : Datagram) → Else d → Other d) → (ds : List Datagram)
      (ms : List Message) → Sifted Own Else from to ds ms → Sifted Own Other from to ds ms
  sifts_more Else Other weaker ds ms sifts_none = sifts_none
  sifts_more Else Other weaker ds ms (sifts_own bytes m ds1 ms1 reads own more) =
      sifts_own bytes m ds1 ms1 reads own (sifts_more Else Other weaker ds1 ms1 more)
  sifts_more Else Other weaker ds ms (sifts_other d ds1 ms1 other more) =
      sifts_other d ds1 ms1 (weaker d other) (sifts_more Else Other weaker ds1 ms1 more)

  -- where no own message is among them
  pub sifts_empty : (Else : Datagram → Type 0) (ds : List Datagram) → Sifted Own Else from to ds [] → Every Else ds
  sifts_empty Else ds sifts_none = tt
  sifts_empty Else ds (sifts_other d ds1 ms1 other more) = (other, sifts_empty Else ds1 more)

-- ---- rows in front

-- what passes them at a server is flagged as a client's, and the other way round
pub passed_flag : (s : Setup) (kind : Kind) (l : Looks) (from : Host) (m : Message) → outer_row s kind l from m ≡ None
    → has_flag CLIENT_INITIATED m.flags ≡ not (is_client kind)
passed_flag s (Server service nonces) l from m none =
    of (has_flag CLIENT_INITIATED m.flags) (not (is_for_servers s.class.challenges m.body))
    (not ((m.service == service) && (m.index == s.class.index))) none
  where
    of : (a b c : Bool)
        → (if not a then Some tooks.Foreign else if b then Some tooks.Strange else if c then Some tooks.Unserved
        else None) ≡ None → a ≡ true
    of true b c is = refl
    of false b c is = absurd cc
passed_flag s (Client host epoch) l from m none = of (has_flag CLIENT_INITIATED m.flags) _ none
  where
    of : (a : Bool) (rest : Option Took) → (if a then Some tooks.Foreign else rest) ≡ None → a ≡ false
    of true rest is = absurd cc
    of false rest is = refl

-- a node names what passes them as the datagram says
pub name_taken : (s : Setup) (l : Looks) (at : Host) (d : Datagram) (m : Message) → IsHome at s.kind → d.to ≡ at
    → outer_row s s.kind l d.from m ≡ None → name_in d m ≡ named s d.from m
name_taken s l at d m home to front =
    ap (λ (b : Bool). name_of (if b then d.from else d.to) m) (passed_flag s s.kind l d.from m front)
    ∙ of s.kind home
  where
    of : (kind : Kind) → IsHome at kind
        → name_of (if not (is_client kind) then d.from else d.to) m ≡ name_of (client_host kind d.from) m
    of (Client host epoch) own = ap (λ (x : Host). name_of x m) (to ∙ sym own)
    of (Server service nonces) own = refl

-- what says nothing of the call isn't for it at any node
pub not_for : (n : Node) (c : CallName) → IsHome n.host n.setup.kind → (d : Datagram) → NotOf c d → IsNotFor n c d
not_for n c home d not_of l m to reads front name =
    not_of m reads (name_taken n.setup l n.host d m home to front ∙ name)

-- nor is what the node's own side gave
pub own_side : (n : Node) (c : CallName) (s : Setup) (from : Host) (h : List Event) → FitsSetup s → Legal s h
    → is_client s.kind ≡ is_client n.setup.kind → (d : Datagram) → IsGivenBy from h d → IsNotFor n c d
own_side n c s from h fits legal same d gave l m to reads front name =
    by (is_client n.setup.kind) (sym ((gave-mine s h d.to d.bytes m fits legal gave.1 reads).flag ∙ same)
    ∙ passed_flag n.setup n.setup.kind l d.from m front)
  where
    by : (b : Bool) → b ≡ not b → ⊥
    by true is = cc
    by false is = cc

-- ---- one end

module _ (s : Setup) (c : CallName) (peer : Host) (service now : ℕ) (from : Host) (h later : List Event)
    (ds : List Datagram) (ms : List Message) where
  -- where nothing else of the call is owed, what was given is sifted
  pub end_sifted : EndPolled s c peer service now from h later ds ms → IsHushed c (looks s h)
      → Sifted (IsOwn s c service) (NotOf c) from peer ds ms
  end_sifted (end_works r works left) hush = left.sifted
  end_sifted (end_rests rests none left) hush =
      subst (λ (ns : List Message). Sifted (IsOwn s c service) (NotOf c) from peer ds ns) (sym none)
      (sifts_all (IsOwn s c service) from peer (NotOf c) ds (left.apart hush))

  -- where it gave nothing of its stream, nothing of that was given
  pub end_quiet : EndPolled s c peer service now from h later ds ms → ms ≡ [] → Every (NoStreamOf c) ds
  end_quiet (end_works r works left) none =
      every_weaker (NotOf c) (NoStreamOf c) (λ d not_of m reads stream name. not_of m reads name) ds
      (sifts_empty (IsOwn s c service) from peer (NotOf c) ds
      (subst (λ (ns : List Message). Sifted (IsOwn s c service) (NotOf c) from peer ds ns) none left.sifted))
  end_quiet (end_rests rests none left) empty = left.others
