-- A server with room for one connection forgets one, in a world whose datagrams are never old: the law with times isn't
-- empty.
use Rattle.std.proofs.Common.{◌≡◌, ◌≢◌, ℕ, zero, suc, List, [], ◌∷◌, codes, Some, None, Ok, refl, inl, inr, arith}
use Rattle.std.specs.Prelude.{IfSome, slice_get}
use Rattle.rx_rules.specs.Rules.{Legal}
use Rattle.rx_model.specs.declared.answers.Took.TheVariants as tooks
use Rattle.rx_model.specs.declared.event.Event.TheVariants as events
use Rattle.rx_model.specs.declared.event.Noted.{Noted}
use Rattle.rx_rules.proofs.Replay.{unhex}
use Rattle.rx_rules.specs.After.{looks}
use Rattle.rx_rules.specs.Classes.{null}
use Rattle.rx_rules.specs.Setup.{Server, FitsLimits, FitsSetup, unprompted}
use Rattle.rx_law.specs.Promises.{LawIn}
use Rattle.rx_history.specs.Sides.{IsClientAt, Node, moment, side}
use Rattle.rx_law.specs.Times.{Acts, AdvancesAlike, GoAlike, Timely}
use Rattle.rx_law.specs.Worlds.{AreApart, World}
use Rattle.rx_law.proofs.Example.{are_bytes, default_fits, host, name, null_fits, client}
use Rattle.rx_law.proofs.WorldLaw.{world-law}

-- ---- clocks that stand alike wherever the client acts

abbrev StandAlike : ℕ → ℕ → List Noted → Type 0
StandAlike server client [] = Unit {0}
StandAlike server client (e ∷ h) = (Acts client e → moment server h ≡ moment client h) × StandAlike server client h

stand-advance : (server client : ℕ) (h : List Noted) (now own : ℕ) → now ≡ own → StandAlike server client h
    → AdvancesAlike server client h now own
stand-advance server client [] now own same stand = tt
stand-advance server client (e ∷ h) now own same stand =
    ((λ acts. (let at = stand.0 acts in omega arith)), stand-advance server client h now own same stand.1)

stand-alike : (server client : ℕ) (h : List Noted) → StandAlike server client h → GoAlike server client h
stand-alike server client [] stand = tt
stand-alike server client (e ∷ h) stand = (
  (λ acts. stand-advance server client h (moment server h) (moment client h)
      (stand.0 acts) stand.1),
  stand-alike server client h stand.1,
)

-- ---- the history

abbrev server : Node
server = record {
  host = host 167772161 7000;
  setup = unprompted (Server 1 0) (record { conns = 1; calls = 64; slots = 2048; window = 32 }) null;
}

abbrev nodes : List Node
nodes = server ∷ client ∷ []

abbrev first_data : List ℕ
first_data = unhex (codes "00000001000000040000000100000001000000010107000000000001")

abbrev second_data : List ℕ
second_data = unhex (codes "00000001000000080000000100000001000000010107000000000001")

-- a call on one connection, and long after it one on another
abbrev happened : List Noted
happened =
    record { node = 0; event = events.Taken (host 167772162 7001) second_data tooks.Kept }
    ∷ record { node = 1; event = events.Polled (Some (host 167772161 7000, second_data)) }
    ∷ record { node = 1; event = events.Shut (name 167772162 7001 1 8 0 1) (Ok tt) }
    ∷ record { node = 1; event = events.Called 8 (Ok (name 167772162 7001 1 8 0 1)) }
    ∷ record { node = 1; event = events.Clocked 700000 }
    ∷ record { node = 0; event = events.Polled None }
    ∷ record { node = 0; event = events.Clocked 700000 }
    ∷ record { node = 0; event = events.Taken (host 167772162 7001) first_data tooks.Kept }
    ∷ record { node = 1; event = events.Polled (Some (host 167772161 7000, first_data)) }
    ∷ record { node = 1; event = events.Shut (name 167772162 7001 1 4 0 1) (Ok tt) }
    ∷ record { node = 1; event = events.Called 4 (Ok (name 167772162 7001 1 4 0 1)) }
    ∷ record { node = 1; event = events.Linked (host 167772161 7000) 1 1 (Ok 8) }
    ∷ record { node = 1; event = events.Linked (host 167772161 7000) 1 1 (Ok 4) }
    ∷ []

-- the server forgot the first connection
forgot-one : (looks server.setup (side 0 happened)).forgotten
    ≡ record { host = host 167772162 7001; epoch = 1; cid = 4 } ∷ []
forgot-one = refl

one_fits : FitsLimits (record { conns = 1; calls = 64; slots = 2048; window = 32 })
one_fits =
    record {
      some_conns = omega arith;
      few_conns = omega arith;
      some_calls = omega arith;
      few_calls = omega arith;
      some_slots = omega arith;
      few_slots = omega arith;
      wide = omega arith;
      narrow = omega arith;
    }

-- the history is one of a world
a_world : World nodes happened
a_world =
    record {
      sides =
          record {
            nodes_are = record { server = tt; clients = clients; fits = fits };
            events_are = (
              omega arith,
              (
                omega arith,
                (
                  omega arith,
                  (
                    omega arith,
                    (
                      omega arith,
                      (
                        omega arith,
                        (
                          omega arith,
                          (omega arith, (omega arith, (omega arith, (omega arith, (omega arith, (omega arith, tt)))))),
                        ),
                      ),
                    ),
                  ),
                ),
              ),
            );
            legal = legal;
          };
      carried = (
        (0, omega arith, refl),
        (tt, (tt, (tt, (tt, (tt, (tt, ((0, omega arith, refl), (tt, (tt, (tt, (tt, (tt, tt)))))))))))),
      );
      apart = apart;
    }
  where
    clients : (k : ℕ) → IfSome (slice_get nodes (suc k)) (λ n. IsClientAt n.host n.setup.kind)
    clients zero = refl
    clients (suc k) = tt

    fits : (k : ℕ) → IfSome (slice_get nodes k) (λ n. FitsSetup n.setup)
    fits zero = record { kind = (omega arith, omega arith); limits = one_fits; class = null_fits }
    fits (suc zero) = record { kind = omega arith; limits = default_fits; class = null_fits }
    fits (suc (suc k)) = tt

    legal : (k : ℕ) → IfSome (slice_get nodes k) (λ n. Legal n.setup (side k happened))
    legal zero = (
      (are_bytes second_data refl, refl),
      (
        refl,
        ((omega arith, omega arith), ((are_bytes first_data refl, refl), tt)),
      ),
    )
    legal (suc zero) = (
      refl,
      (
        refl,
        (
          refl,
          (
            (omega arith, omega arith),
            (
              refl,
              (
                refl,
                (
                  refl,
                  (
                    (omega arith, omega arith, omega arith, refl),
                    ((omega arith, omega arith, omega arith, refl), tt),
                  ),
                ),
              ),
            ),
          ),
        ),
      ),
    )
    legal (suc (suc k)) = tt

    apart : (j k : ℕ) → j ≢ k
        → IfSome (slice_get nodes j) (λ n. IfSome (slice_get nodes k) (λ o. AreApart n.setup.kind o.setup.kind))
    apart zero zero differ = tt
    apart zero (suc zero) differ = tt
    apart zero (suc (suc k)) differ = tt
    apart (suc zero) zero differ = tt
    apart (suc zero) (suc zero) differ = absurd (differ refl)
    apart (suc zero) (suc (suc k)) differ = tt
    apart (suc (suc j)) k differ = tt

-- no datagram of it is old, and the client does nothing while its clock is behind
a_timely : Timely nodes happened
a_timely =
    record {
      fresh = (
        record {
          node = 1;
          sender = refl;
          gave = inl (record {
            node_is = refl;
            gives =
                (refl, refl);
            lately = omega arith;
          });
        },
        (
          tt,
          (
            tt,
            (
              tt,
              (
                tt,
                (
                  tt,
                  (
                    tt,
                    (
                      record {
                        node = 1;
                        sender = refl;
                        gave = inl
                            (record { node_is = refl; gives = (refl, refl); lately = omega arith });
                      },
                      (tt, (tt, (tt, (tt, (tt, tt))))),
                    ),
                  ),
                ),
              ),
            ),
          ),
        ),
      );
      alike = alike;
    }
  where
    alike : (k : ℕ) → IfSome (slice_get nodes (suc k)) (λ n. GoAlike 0 (suc k) happened)
    alike zero =
        stand-alike 0 1 happened (
          λ acts. refl,
          (
            λ acts. refl,
            (
              λ acts. refl,
              (
                λ acts. refl,
                (
                  λ acts. absurd (let no_act = acts.1 in cc (no_act)),
                  (
                    λ acts. absurd (let away = acts.0 in omega arith),
                    (
                      λ acts. refl,
                      (
                        λ acts. refl,
                        (
                          λ acts. refl,
                          (
                            λ acts. refl,
                            (λ acts. refl, (λ acts. refl, (λ acts. refl, tt))),
                          ),
                        ),
                      ),
                    ),
                  ),
                ),
              ),
            ),
          ),
        )
    alike (suc k) = tt

-- so its calls have the law, though a record was forgotten
its-law : LawIn nodes happened
its-law = world-law nodes happened a_world (inr a_timely)
