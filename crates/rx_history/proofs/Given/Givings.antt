-- What a poll of a legal history gives is plain, and so is read as that message.
use Rattle.std.proofs.Common.{◌≡◌, ◌⊎◌, ℕ, List, [], ◌∷◌, Option, Some, None, refl, ◌∙◌, ap, sym, subst, inl, inr}
use Rattle.std.proofs.Common.{arith}
use Rattle.rx_model.specs.declared.event.Event.{Event}
use Rattle.rx_model.specs.declared.names.Host.{Host}
use Rattle.rx_model.specs.declared.stray.Stray.{Stray}
use Rattle.rx_model.specs.Message.{Message}
use Rattle.rx_model.specs.Names.{connection_of, same_connection}
use Rattle.rx_model.specs.Reading.{reading_of}
use Rattle.rx_model.specs.Spelling.{IsPlain, made}
use Rattle.rx_model.specs.Strays.{stray_message}
use Rattle.rx_rules.specs.After.{looks}
use Rattle.rx_rules.specs.Items.{Item, datagram_for, datagram_on, message_on, next_item, poll_answer, poll_with}
use Rattle.rx_rules.specs.Looks.{ConnLooks, Looks, conn_at}
use Rattle.rx_rules.specs.Records.{silenced}
use Rattle.rx_rules.specs.Rules.{Legal}
use Rattle.rx_rules.specs.Setup.{Setup, FitsSetup}
use Rattle.rx_rules.proofs.EveryLaws.{Every}
use Rattle.rx_rules.proofs.FindLaws.{find_passes}
use Rattle.rx_model.proofs.MessageLaws.{reads_back}
use Rattle.rx_model.proofs.NameLaws.{connection_is}
use Rattle.rx_history.specs.Givings.{GivesItem, GivesPlain, GivesStray}
use Rattle.rx_history.proofs.Conns.{GoodConn, found-good}
use Rattle.rx_history.proofs.Data.{some_pair}
use Rattle.rx_history.proofs.Fit.FitEvents.{fit-silenced}
use Rattle.rx_history.proofs.Fit.FitHistory.{fit_history, node_stands}
use Rattle.rx_history.proofs.Fit.FitStrays.{FitsStray}
use Rattle.rx_history.proofs.Plain.PlainItems.{next_plain}
use Rattle.rx_history.proofs.Plain.PlainCalls.{PlainItem}
use Rattle.rx_history.proofs.Server.{good-silenced}

-- a stray abort is plain
stray-plain : (x : Stray) → FitsStray x → IsPlain (stray_message x)
stray-plain x f =
    record {
      epoch = f.epoch;
      cid = f.cid;
      number = omega arith;
      seq = omega arith;
      serial = omega arith;
      flags = omega arith;
      status = refl;
      index = f.index;
      spare = refl;
      service = f.service;
      body = omega arith;
    }

module _ (s : Setup) (h : List Event) (fits : FitsSetup s) (legal : Legal s h) where
  -- what is known of the next item
  pub next_is : (i : Item) → next_item s (silenced (looks s h)) ≡ Some i → PlainItem s (silenced (looks s h)) i
  next_is i is =
      let l : Looks = looks s h in
      let standing = node_stands s h fits legal in
      let all = fit_history s h fits legal in
      next_plain s (silenced l) fits standing.conns (λ d. good-silenced s l d (standing.calls d))
      (record { conns = all.conns; calls = fit-silenced l all.calls; strays = all.strays }) i is

  -- and of the record of its connection
  pub conn_of : (i : Item) (r : ConnLooks) → conn_at (looks s h) (connection_of i.name) ≡ Some r
      → GoodConn s r × (r.connection ≡ connection_of i.name)
  conn_of i r there =
      let l : Looks = looks s h in (
        found-good s (λ q. same_connection q.connection (connection_of i.name)) l.conns r
            (node_stands s h fits legal).conns there,
        connection_is r.connection (connection_of i.name)
            (find_passes (λ q. same_connection q.connection (connection_of i.name)) l.conns r there),
      )

  item-plain : (i : Item) (r : ConnLooks) → PlainItem s (silenced (looks s h)) i → GoodConn s r
      → IsPlain (message_on s i r)
  item-plain i r p good =
      record {
        epoch = p.name.epoch;
        cid = p.name.whole;
        number = p.name.number;
        seq = p.seq;
        serial = omega arith;
        flags = p.flags;
        status = refl;
        index = fits.class.index;
        spare = refl;
        service = good.service;
        body = p.body;
      }

  gives : (to : Host) (bytes : List ℕ) (m : Message) → GivesStray (looks s h) to m ⊎ GivesItem s (looks s h) to m
      → made m ≡ bytes → IsPlain m
      → GivesPlain s (looks s h) to bytes
  gives to bytes m owed text plain =
      record {
        message = m;
        owed = owed;
        written = sym text;
        plain = plain;
        read = ap reading_of (sym text) ∙ reads_back m plain;
      }

  -- what a poll gives
  pub poll_gives : (to : Host) (bytes : List ℕ) → poll_answer s (looks s h) ≡ Some (to, bytes)
      → GivesPlain s (looks s h) to bytes
  poll_gives to bytes is = of (looks s h).strays refl is
    where
      l : Looks
      l = looks s h

      at : (i : Item) (o : Option ConnLooks) → l.strays ≡ [] → next_item s (silenced l) ≡ Some i
          → conn_at l (connection_of i.name) ≡ o
          → datagram_on s i o ≡ Some (to, bytes) → GivesPlain s l to bytes
      at i None none next there is = absurd cc
      at i (Some r) none next there is =
          let pair = some_pair (r.peer, made (message_on s i r)) (to, bytes) is in
          gives to bytes (message_on s i r)
          (inr (record {
            item = i;
            conn = r;
            owed = none;
            next = next;
            there = there;
            host = ap (λ (p : Host × List ℕ). p.0) (sym pair);
            is = refl;
          })) (ap (λ (p : Host × List ℕ). p.1) pair) (item-plain i r (next_is i next) (conn_of i r there).0)

      next-one : (o : Option Item) → l.strays ≡ [] → next_item s (silenced l) ≡ o
          → datagram_for s (silenced l) o ≡ Some (to, bytes)
          → GivesPlain s l to bytes
      next-one None none next is = absurd cc
      next-one (Some i) none next is = at i (conn_at l (connection_of i.name)) none next refl is

      of : (xs : List Stray) → l.strays ≡ xs → poll_with s (silenced l) xs ≡ Some (to, bytes) → GivesPlain s l to bytes
      of [] none is = next-one (next_item s (silenced l)) none refl is
      of (x ∷ xs) owed is =
          let pair = some_pair (x.host, made (stray_message x)) (to, bytes) is in
          let all = subst (λ (ys : List Stray). Every FitsStray ys) owed (fit_history s h fits legal).strays in
          gives to bytes (stray_message x)
          (inl (record {
            oldest = x;
            later = xs;
            owed = owed;
            host = ap (λ (p : Host × List ℕ). p.0) (sym pair);
            is = refl;
          }))
          (ap (λ (p : Host × List ℕ). p.1) pair) (stray-plain x all.0)
