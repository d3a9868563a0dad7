-- What is given on a wire, joined.
use Rattle.std.proofs.Common.{◌≡◌, ◌≢◌, ◌∙◌, ◌≤◌, ◌<◌, ◌+◌, ◌==◌, ◌||◌, ℕ, Bool, true, false, List, [], ◌∷◌, ◌++◌}
use Rattle.std.proofs.Common.{Option, Some, None, refl, sym, ap, subst, arith, length, append_assoc, inl, inr}
use Rattle.std.specs.Prelude.{map, nat_lt}
use Rattle.std.proofs.lemmas.List.{append-nil, length-append, map-append}
use Rattle.std.proofs.lemmas.Bool.Decides.{nat_tests}
use Rattle.rx_jumbo.specs.JoinerState.{JoinerState, joins, takes}
use Rattle.rx_jumbo.specs.Parts.{parts_of}
use Rattle.rx_model.specs.declared.names.Host.{Host}
use Rattle.rx_model.specs.Names.{same_host}
use Rattle.rx_model.proofs.NameLaws.{both, host_is}
use Rattle.rx_wire.specs.Wire.{GaveTo, Traffic}
use Rattle.rx_drive.specs.declared.stop.Stop.{Stop}
use Rattle.rx_drive.specs.declared.stop.Stop.TheVariants as stops
use Rattle.rx_wire_loop.specs.Ports.{Empties, GivesOne, IsWithin, Keeps, Offered, Passes, all_for, as_one, gave_all}
use Rattle.rx_wire_loop.specs.Ports.{held, parts_all, split}
use Rattle.rx_wire_loop.specs.Tells.{HasLoggedAll, WireTells}
use Rattle.rx_wire_loop.proofs.Telling.{logged_none, logged_one}

zero_low : (n : ℕ) → 0 ≤ n
zero_low n = omega arith

-- ---- lists of datagrams

-- those of one host behind one another
pub all_for_both : (to : Host) (xs ys : List (List ℕ)) → all_for to (xs ++ ys) ≡ all_for to xs ++ all_for to ys
all_for_both to xs ys = map-append (λ (b : List ℕ). (to, b)) xs ys

pub parts_all_both : (xs ys : List (Host × List ℕ)) → parts_all (xs ++ ys) ≡ parts_all xs ++ parts_all ys
parts_all_both [] ys = refl
parts_all_both (x ∷ xs) ys =
    ap (λ (zs : List (Host × List ℕ)). all_for x.0 (parts_of x.1) ++ zs) (parts_all_both xs ys)
    ∙ sym (append_assoc (all_for x.0 (parts_of x.1)) (parts_all xs) (parts_all ys))

pub gave_all_both : (xs ys : List (Host × List ℕ)) → gave_all (xs ++ ys) ≡ gave_all xs ++ gave_all ys
gave_all_both xs ys = map-append (λ (d : Host × List ℕ). GaveTo d.0 d.1) xs ys

-- the parts of those given as one
pub parts_all_one : (ds : List (Host × List ℕ)) (to : Host) (bs : List (List ℕ)) → map split ds ≡ as_one to bs
    → parts_all ds ≡ all_for to bs
parts_all_one [] to [] is = refl
parts_all_one [] to (b ∷ bs) is = absurd (cc (is))
parts_all_one (d ∷ ds) to [] is = absurd (cc (is))
parts_all_one (d ∷ []) to (b ∷ bs) is =
    (let same : split d ≡ (to, b ∷ bs) = cc (is) in
    append-nil (all_for d.0 (parts_of d.1))
    ∙ ap (λ (g : Host × List (List ℕ)). all_for g.0 g.1) same)
parts_all_one (d ∷ e ∷ ds) to (b ∷ bs) is = absurd (cc (is))

-- ---- giving what is held back

-- a joiner that holds none keeps what it has room for
pub keeps_none : (j new : JoinerState) → new ≡ record j { datagrams = [] } → IsWithin j → Keeps j new
keeps_none j new is within =
    record {
      within = rw is (record { some = within.some; few = zero_low j.most });
      most = ap (λ (k : JoinerState). k.most) is;
    }

-- nothing is held back
pub empties_none : (j new : JoinerState) (wire : WireTells) → j.datagrams ≡ [] → new ≡ record j { datagrams = [] }
    → Empties j new wire wire None
empties_none j new wire none is =
    record {
      given = [];
      gave = (logged_none wire.traffic, refl, refl);
      rest = (rw none refl, ap (λ (k : JoinerState). k.datagrams) is);
      few = tt;
    }

-- none of a host is none
none_for : (to : Host) (bs : List (List ℕ)) → all_for to bs ≡ [] → bs ≡ []
none_for to [] none = refl
none_for to (b ∷ bs) none = absurd (cc (none))

-- there is a last one
pub some_last : {A : Type 0} (xs : List A) (y : A) → xs ++ y ∷ [] ≢ []
some_last [] y none = absurd (cc (none))
some_last (x ∷ xs) y none = absurd (cc (none))

-- some datagrams as one
some_as_one : (to : Host) (bs : List (List ℕ)) → bs ≢ [] → (to, bs) ∷ [] ≡ as_one to bs
some_as_one to [] some = absurd (some refl)
some_as_one to (b ∷ bs) some = refl

module _ (j new : JoinerState) (to : Host) (bytes : List ℕ) (first last : WireTells) where
  -- it was given, or the wire failed
  pub empties_given : (stop : Option Stop) → to ≡ j.host → parts_of bytes ≡ j.datagrams → j.datagrams ≢ []
      → new ≡ record j { datagrams = [] } → IsWithin j → GivesOne first last (to, bytes) stop
      → Empties j new first last stop
  empties_given None host parts some is within gave =
      record {
        given = (to, bytes) ∷ [];
        gave = (logged_one first.traffic last.traffic (GaveTo to bytes) gave.0, gave.1, gave.2);
        rest = (
          (λ i. (host i, parts i) ∷ []) ∙ some_as_one j.host j.datagrams some,
          ap (λ (k : JoinerState). k.datagrams) is,
        );
        few = (rw parts within.few, tt);
      }
  empties_given (Some stops.WireFault) host parts some is within gave =
      record {
        given = [];
        gave = (
          subst (λ (t : Option Traffic). HasLoggedAll first.traffic t []) (sym gave.0) (logged_none first.traffic),
          gave.1,
          gave.2,
        );
        rest = (refl, λ none. some (none_for j.host j.datagrams none));
        few = tt;
      }
  empties_given (Some stops.SinkFault) host parts some is within gave = absurd gave
  empties_given (Some stops.OutOfMemory) host parts some is within gave = absurd gave
  empties_given (Some stops.Unnoted) host parts some is within gave = absurd gave
  empties_given (Some stops.Endless) host parts some is within gave = absurd gave
  empties_given (Some stops.Unformatted) host parts some is within gave = absurd gave

-- ---- one datagram more

-- behind others that it follows there is room for it, and it is for their host
pub record Follows (j : JoinerState) (to : Host) : Type 0 where
  pub host : j.host ≡ to
  pub room : length j.datagrams < j.most

-- behind others it is taken where it is joined
pub taken_behind : (most : ℕ) (host to : Host) (x : List ℕ) (xs : List (List ℕ)) (d : List ℕ)
    → joins (record { most = most; host = host; datagrams = x ∷ xs }) to d
    ≡ takes (record { most = most; host = host; datagrams = x ∷ xs }) to d
taken_behind most host to x xs d =
    (let j : JoinerState = record { most = most; host = host; datagrams = x ∷ xs } in
    let some : (length (x ∷ xs) == 0) ≡ false = grind (arith, nat_tests) in
    sym (ap (λ (b : Bool). b || joins j to d) some))

pub follows_others : (most : ℕ) (host to : Host) (x : List ℕ) (xs : List (List ℕ)) (d : List ℕ)
    → takes (record { most = most; host = host; datagrams = x ∷ xs }) to d ≡ true
    → Follows (record { most = most; host = host; datagrams = x ∷ xs }) to
follows_others most host to x xs d taken =
    (let j : JoinerState = record { most = most; host = host; datagrams = x ∷ xs } in
    let joined : joins j to d ≡ true = taken_behind most host to x xs d ∙ taken in
    let room : nat_lt (length (x ∷ xs)) most ≡ true = (both _ _ joined).0 in
    let same : same_host host to ≡ true = (both _ _ (both _ _ joined).1).0 in
    record { host = host_is host to same; room = grind (arith, nat_tests) })

-- it is held back behind the others
held_more : (most : ℕ) (host to : Host) (ds : List (List ℕ)) (d : List ℕ)
    → takes (record { most = most; host = host; datagrams = ds }) to d ≡ true
    → all_for to (ds ++ d ∷ []) ≡ all_for host ds ++ (to, d) ∷ []
held_more most host to [] d taken = refl
held_more most host to (x ∷ xs) d taken =
    all_for_both to (x ∷ xs) (d ∷ [])
    ∙ ap (λ (h : Host). all_for h (x ∷ xs) ++ (to, d) ∷ []) (sym (follows_others most host to x xs d taken).host)

held_few : (most : ℕ) (host to : Host) (ds : List (List ℕ)) (d : List ℕ) → 1 ≤ most
    → takes (record { most = most; host = host; datagrams = ds }) to d ≡ true → length (ds ++ d ∷ []) ≤ most
held_few most host to [] d some taken = some
held_few most host to (x ∷ xs) d some taken =
    (let room = (follows_others most host to x xs d taken).room in
    let long : length ((x ∷ xs) ++ d ∷ []) ≡ length (x ∷ xs) + 1 = length-append (x ∷ xs) (d ∷ []) in
    omega (arith, room, long))

pub passes_held : (j new : JoinerState) (to : Host) (d : List ℕ) (wire : WireTells) → takes j to d ≡ true
    → new ≡ record j { host = to; datagrams = j.datagrams ++ d ∷ [] }
    → Passes (to, d) j new wire wire None
passes_held j new to d wire taken is =
    record {
      given = [];
      gave = (logged_none wire.traffic, refl, refl);
      rest = inl (taken, refl, is);
      few = tt;
    }

pub keeps_held : (j new : JoinerState) (to : Host) (d : List ℕ) → takes j to d ≡ true
    → new ≡ record j { host = to; datagrams = j.datagrams ++ d ∷ [] } → IsWithin j → Keeps j new
keeps_held j new to d taken is within =
    record {
      within = rw is (record {
        some = within.some;
        few = held_few j.most j.host to j.datagrams d within.some taken;
      });
      most = ap (λ (k : JoinerState). k.most) is;
    }

-- it can't be joined behind what was given before it
pub passes_behind : (j mid new : JoinerState) (to : Host) (d : List ℕ) (first last : WireTells)
    → takes j to d ≡ false → Empties j mid first last None → Keeps j mid
    → new ≡ record mid { host = to; datagrams = mid.datagrams ++ d ∷ [] } → Passes (to, d) j new first last None
passes_behind j mid new to d first last apart e keeps is =
    record {
      given = e.given;
      gave = e.gave;
      rest = inr (
        apart,
        e.rest.0,
        is ∙ (λ i. record { most = keeps.most i; host = to; datagrams = e.rest.1 i ++ d ∷ [] }),
      );
      few = e.few;
    }

pub keeps_behind : (j mid new : JoinerState) (to : Host) (d : List ℕ) → Keeps j mid → mid.datagrams ≡ []
    → new ≡ record mid { host = to; datagrams = mid.datagrams ++ d ∷ [] } → Keeps j new
keeps_behind j mid new to d keeps none is =
    record {
      within = rw is (rw none (record { some = keeps.within.some; few = keeps.within.some }));
      most = ap (λ (k : JoinerState). k.most) is ∙ keeps.most;
    }

-- a datagram is taken where none is held
pub takes_first : (j : JoinerState) (to : Host) (d : List ℕ) → j.datagrams ≡ [] → takes j to d ≡ true
takes_first j to d none = rw none refl

-- the wire failed before it
pub passes_failed : (j mid : JoinerState) (d : Host × List ℕ) (first last : WireTells) (stop : Stop)
    → Empties j mid first last (Some stop) → Passes d j mid first last (Some stop)
passes_failed j mid d first last stop e =
    record { given = e.given; gave = e.gave; rest = e.rest.0; few = e.few }

-- ---- what is held back behind the others, by how it was passed on

-- behind those given and what was held back stands one datagram more
pub joined_more : (j new : JoinerState) (d : Host × List ℕ) (given : List (Host × List ℕ))
    → Offered j new d given None → parts_all given ++ held new ≡ held j ++ d ∷ []
joined_more j new d given (inl (taken, none, is)) =
    rw none (rw is (held_more j.most j.host d.0 j.datagrams d.1 taken))
joined_more j new d given (inr (apart, whole, is)) =
    rw is (ap (λ (xs : List (Host × List ℕ)). xs ++ d ∷ []) (parts_all_one given j.host j.datagrams whole))

-- what was held back is given too, as one
pub joined_last : (j : JoinerState) (given last polled : List (Host × List ℕ))
    → map split last ≡ as_one j.host j.datagrams → parts_all given ++ held j ≡ polled
    → parts_all (given ++ last) ≡ polled
joined_last j given last polled whole joined =
    parts_all_both given last
    ∙ ap (λ (xs : List (Host × List ℕ)). parts_all given ++ xs) (parts_all_one last j.host j.datagrams whole) ∙ joined
