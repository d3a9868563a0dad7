-- What is kept of what a node of a plan gives. Public clauses cite this module.
use Rattle.std.specs.Prelude.{◌≡◌, ℕ, List, [], ◌++◌, map}
use Rattle.std.proofs.Common.{◌∙◌, refl, sym, ap, append_assoc, append-nil}
use Rattle.std.proofs.lemmas.List.{map-append}
use Rattle.rx_law.specs.Worlds.{Datagram}
use Rattle.rx_model.specs.declared.names.Host.{Host}
use Rattle.rx_wire.specs.Wire.{Logged}
use Rattle.rx_drive.specs.Carried.{Given}
use Rattle.rx_drive.specs.Ran.{Fault, wants_memory, wire_failed}

-- the host of the node, the datagrams given so far, and by which reference they are reached
pub record GivingState : Type 0 where
  pub from : Host
  pub given : List Datagram
  pub name : ℕ

-- a datagram that a node of this host gave
abbrev pub of_host : Host → Given → Datagram
of_host from d = record { from = from; to = d.0; bytes = d.1 }

-- these are given behind the others, from the same host to the same list, and nothing is in a log
pub record Gives (old new : GivingState) (xs : List Given) (ls : List Logged) : Type 0 where
  pub none : ls ≡ []
  pub kept : new.given ≡ old.given ++ map (of_host old.from) xs
  pub from : new.from ≡ old.from
  pub name : new.name ≡ old.name

-- it may want memory, and nothing is in a log then; it has to do with no wire
abbrev pub WantedAt : Fault → List Logged → Type 0
WantedAt wants_memory ls = ls ≡ []
WantedAt wire_failed ls = ⊥

-- nothing behind nothing
none_of_both : (ls ms : List Logged) → ls ≡ [] → ms ≡ [] → ls ++ ms ≡ []
none_of_both ls ms first next = ap (λ (xs : List Logged). xs ++ ms) first ∙ next

-- at first nothing was given
pub gives_none : (k : GivingState) → Gives k k [] []
gives_none k = record { none = refl; kept = sym (append-nil k.given); from = refl; name = refl }

-- what is given behind what was given is given of both
pub gives_both : (a b c : GivingState) (xs ys : List Given) (ls ms : List Logged) → Gives a b xs ls → Gives b c ys ms
    → Gives a c (xs ++ ys) (ls ++ ms)
gives_both a b c xs ys ls ms x y =
    (let one : map (of_host a.from) (xs ++ ys) ≡ map (of_host a.from) xs ++ map (of_host a.from) ys =
    map-append (of_host a.from) xs ys in
    record {
      none = none_of_both ls ms x.none y.none;
      kept = y.kept
          ∙ ap (λ (zs : List Datagram). zs ++ map (of_host b.from) ys) x.kept
          ∙ append_assoc a.given (map (of_host a.from) xs) (map (of_host b.from) ys)
          ∙ ap (λ (h : Host). a.given ++ (map (of_host a.from) xs ++ map (of_host h) ys)) x.from
          ∙ ap (λ (zs : List Datagram). a.given ++ zs) (sym one);
      from = y.from ∙ x.from;
      name = y.name ∙ x.name;
    })

-- memory may be wanted behind what was given
pub wants_behind : (why : Fault) (ls ms : List Logged) → ls ≡ [] → WantedAt why ms → WantedAt why (ls ++ ms)
wants_behind wants_memory ls ms first next = none_of_both ls ms first next
wants_behind wire_failed ls ms first next = absurd next
