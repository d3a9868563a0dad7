-- A whole call between a server and a client is a world (the text of rx_model, WorldExample), and so has the law.
use Rattle.std.proofs.Common.{◌≡◌, ◌≢◌, ◌<◌, ℕ, pos, zero, suc, true, List, [], ◌∷◌, codes, Some, Ok}
use Rattle.std.proofs.Common.{refl, arith, nat_lt}
use Rattle.std.proofs.lemmas.Bool.Decides.{nat_tests}
use Rattle.std.specs.Prelude.{IfSome, slice_get}
use Rattle.rx_rules.specs.Rules.{Legal}
use Rattle.std.specs.List.{list_all}
use Rattle.rx_model.specs.declared.answers.Asked.TheVariants as askeds
use Rattle.rx_model.specs.declared.answers.End.TheVariants as ends
use Rattle.rx_model.specs.declared.answers.ReadAns.TheVariants as answers
use Rattle.rx_model.specs.declared.answers.ReadGot.TheVariants as readers
use Rattle.rx_model.specs.declared.answers.ServeRead.TheVariants as reads
use Rattle.rx_model.specs.declared.answers.Took.TheVariants as tooks
use Rattle.rx_model.specs.declared.event.Event.TheVariants as events
use Rattle.rx_model.specs.declared.names.CallName.{CallName}
use Rattle.rx_model.specs.declared.names.Host.{Host}
use Rattle.rx_rules.specs.Classes.{FitsClass, null}
use Rattle.rx_rules.specs.Setup.{Server, Client, FitsLimits, FitsSetup, unprompted}
use Rattle.rx_model.specs.Message.{IsBytes}
use Rattle.rx_history.specs.Sides.{IsClientAt, Node, side}
use Rattle.rx_law.specs.Worlds.{AreApart, World}
use Rattle.rx_model.specs.declared.event.Noted.{Noted}
use Rattle.rx_model.proofs.NameLaws.{both}
use Rattle.rx_rules.proofs.Replay.{unhex}
use Rattle.rx_model.specs.Names.{Connection}
use Rattle.rx_law.specs.Promises.{EndsOk, LawIn, ends_in}
use Rattle.rx_law.proofs.World.{world-kept}
use Rattle.rx_history.proofs.Fit.FitCall.{none-said}

-- an address
abbrev pub host : ℕ → ℕ → Host
host addr port = record { addr = addr; port = port }

-- a call
abbrev pub name : ℕ → ℕ → ℕ → ℕ → ℕ → ℕ → CallName
name addr port epoch cid chan number =
    record { host = host addr port; epoch = epoch; cid = cid; chan = chan; number = number }

abbrev server : Node
server = record {
  host = host 167772161 7000;
  setup = unprompted (Server 1 0) (record { conns = 1024; calls = 64; slots = 2048; window = 32 }) null;
}

abbrev pub client : Node
client = record {
  host = host 167772162 7001;
  setup =
      unprompted (Client (host 167772162 7001) 1) (record { conns = 1024; calls = 64; slots = 2048; window = 32 }) null;
}

abbrev nodes : List Node
nodes = server ∷ client ∷ []

abbrev happened : List Noted
happened =
    record { node = 1; event = events.Ended (name 167772162 7001 1 4 0 1) (askeds.Ended ends.Ok) }
    ∷ record {
      node = 0;
      event = events.Taken (host 167772162 7001)
          (unhex (codes "00000001000000040000000100000000000000020501000000000001")) tooks.Heard;
    }
    ∷ record {
      node = 1;
      event = events.Polled (Some (
        host 167772161 7000,
        (unhex (codes "00000001000000040000000100000000000000020501000000000001")),
      ));
    }
    ∷ record {
      node = 1;
      event = events.Taken (host 167772161 7000)
          (unhex (codes "00000001000000040000000100000000000000020200000000000001000000000000000200000001000000010100000000000005a4000005a40000002000000001")) tooks.Over;
    }
    ∷ record { node = 1; event = events.HasRead (name 167772162 7001 1 4 0 1) 16 (readers.Client answers.End) [] }
    ∷ record {
      node = 1;
      event = events.Taken (host 167772161 7000)
          (unhex (codes "00000001000000040000000100000001000000010106000000000001")) tooks.Kept;
    }
    ∷ record {
      node = 0;
      event = events.Polled (Some (
        host 167772162 7001,
        (unhex (codes "00000001000000040000000100000000000000020200000000000001000000000000000200000001000000010100000000000005a4000005a40000002000000001")),
      ));
    }
    ∷ record {
      node = 0;
      event = events.Polled (Some (
        host 167772162 7001,
        (unhex (codes "00000001000000040000000100000001000000010106000000000001")),
      ));
    }
    ∷ record { node = 0; event = events.Finished (name 167772162 7001 1 4 0 1) (pos 0) (Ok tt) }
    ∷ record { node = 0; event = events.HasRead (name 167772162 7001 1 4 0 1) 16 (readers.Server reads.End) [] }
    ∷ record { node = 0; event = events.Accepted (Some (name 167772162 7001 1 4 0 1)) }
    ∷ record {
      node = 0;
      event = events.Taken (host 167772162 7001)
          (unhex (codes "00000001000000040000000100000001000000010107000000000001")) tooks.Kept;
    }
    ∷ record {
      node = 1;
      event = events.Polled (Some (
        host 167772161 7000,
        (unhex (codes "00000001000000040000000100000001000000010107000000000001")),
      ));
    }
    ∷ record { node = 1; event = events.Shut (name 167772162 7001 1 4 0 1) (Ok tt) }
    ∷ record { node = 1; event = events.Called 4 (Ok (name 167772162 7001 1 4 0 1)) }
    ∷ record { node = 1; event = events.Linked (host 167772161 7000) 1 1 (Ok 4) }
    ∷ []

-- bytes that test as such are
pub are_bytes : (bytes : List ℕ) → list_all (λ b. nat_lt b 256) bytes ≡ true → IsBytes bytes
are_bytes [] all i = omega arith
are_bytes (b ∷ bs) all zero = is_below b (both _ _ all).0
  where
    is_below : (b : ℕ) → nat_lt b 256 ≡ true → b < 256
    is_below b is = grind (arith, nat_tests)
are_bytes (b ∷ bs) all (suc i) = are_bytes bs (both _ _ all).1 i

-- no security fits
pub null_fits : FitsClass null
null_fits =
    record { index = omega arith; challenge = λ c nonce. (none-said, omega arith); respond = λ c asked. tt }

-- the limits of a node for which none are named
pub default_fits : FitsLimits (record { conns = 1024; calls = 64; slots = 2048; window = 32 })
default_fits =
    record {
      some_conns = omega arith;
      few_conns = omega arith;
      some_calls = omega arith;
      few_calls = omega arith;
      some_slots = omega arith;
      few_slots = omega arith;
      wide = omega arith;
      narrow = omega arith;
    }

-- the whole history is one of a world
a_world : World nodes happened
a_world =
    record {
      sides =
          record {
            nodes_are =
                record {
                  server = tt;
                  clients = clients;
                  fits = fits;
                };
            events_are = (
              omega arith,
              (
                omega arith,
                (
                  omega arith,
                  (
                    omega arith,
                    (
                      omega arith,
                      (
                        omega arith,
                        (
                          omega arith,
                          (
                            omega arith,
                            (
                              omega arith,
                              (
                                omega arith,
                                (
                                  omega arith,
                                  (omega arith, (omega arith, (omega arith, (omega arith, (omega arith, tt))))),
                                ),
                              ),
                            ),
                          ),
                        ),
                      ),
                    ),
                  ),
                ),
              ),
            );
            legal = legal;
          };
      carried = (
        tt,
        (
          (0, omega arith, refl),
          (
            tt,
            (
              (0, omega arith, refl),
              (
                tt,
                (
                  (1, omega arith, refl),
                  (tt, (tt, (tt, (tt, (tt, ((0, omega arith, refl), (tt, (tt, (tt, (tt, tt)))))))))),
                ),
              ),
            ),
          ),
        ),
      );
      apart = apart;
    }
  where
    clients : (k : ℕ) → IfSome (slice_get nodes (suc k)) (λ n. IsClientAt n.host n.setup.kind)
    clients zero = refl
    clients (suc k) = tt

    fits : (k : ℕ) → IfSome (slice_get nodes k) (λ n. FitsSetup n.setup)
    fits zero = record { kind = (omega arith, omega arith); limits = default_fits; class = null_fits }
    fits (suc zero) = record { kind = omega arith; limits = default_fits; class = null_fits }
    fits (suc (suc k)) = tt

    legal : (k : ℕ) → IfSome (slice_get nodes k) (λ n. Legal n.setup (side k happened))
    legal zero = (
      (are_bytes (unhex (codes "00000001000000040000000100000000000000020501000000000001")) refl, refl),
      (
        refl,
        (
          refl,
          (
            (omega arith, refl),
            (
              (omega arith, refl),
              (
                refl,
                (
                  (
                    are_bytes (unhex
                        (codes "00000001000000040000000100000001000000010107000000000001")) refl,
                    refl,
                  ),
                  tt,
                ),
              ),
            ),
          ),
        ),
      ),
    )
    legal (suc zero) = (
      refl,
      (
        refl,
        (
          (
            are_bytes (unhex
                (codes "00000001000000040000000100000000000000020200000000000001000000000000000200000001000000010100000000000005a4000005a40000002000000001")) refl,
            refl,
          ),
          (
            (omega arith, refl),
            (
              (are_bytes (unhex (codes "00000001000000040000000100000001000000010106000000000001")) refl, refl),
              (refl, (refl, (refl, ((omega arith, omega arith, omega arith, refl), tt)))),
            ),
          ),
        ),
      ),
    )
    legal (suc (suc k)) = tt

    apart : (j k : ℕ) → j ≢ k
        → IfSome (slice_get nodes j) (λ n. IfSome (slice_get nodes k) (λ o. AreApart n.setup.kind o.setup.kind))
    apart zero zero differ = tt
    apart zero (suc zero) differ = tt
    apart zero (suc (suc k)) differ = tt
    apart (suc zero) zero differ = tt
    apart (suc zero) (suc zero) differ = absurd (differ refl)
    apart (suc zero) (suc (suc k)) differ = tt
    apart (suc (suc j)) k differ = tt

-- its server forgot nothing, so its calls have the law
its-law : LawIn nodes happened
its-law = world-kept nodes happened a_world refl

the-connection : Connection
the-connection = record { host = host 167772162 7001; epoch = 1; cid = 4 }

-- the call ended with Ok, and so it was entered once and read whole
its-end : EndsOk (ends_in the-connection 1 client server) (name 167772162 7001 1 4 0 1) happened
unfolding the-connection
its-end = (its-law.connections the-connection 1 client server refl refl refl
    (name 167772162 7001 1 4 0 1) refl [] happened refl).ends ends.Ok refl
