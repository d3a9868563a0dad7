-- The second peer calls the first, whose handler calls back before it ends: a world of peers, in which both calls have
-- the law, though their connections have one epoch and one cid.
use Rattle.std.proofs.Common.{◌≡◌, ℕ, pos, zero, suc, List, [], ◌∷◌, codes, Some, Ok, refl, inl, inr, ap, arith}
use Rattle.std.specs.Prelude.{IfSome, IsSomeAnd}
use Rattle.rx_model.specs.declared.answers.Asked.TheVariants as askeds
use Rattle.rx_model.specs.declared.answers.End.TheVariants as ends
use Rattle.rx_model.specs.declared.answers.ReadAns.TheVariants as answers
use Rattle.rx_model.specs.declared.answers.ReadGot.TheVariants as readers
use Rattle.rx_model.specs.declared.answers.ServeRead.TheVariants as reads
use Rattle.rx_model.specs.declared.answers.Took.TheVariants as tooks
use Rattle.rx_model.specs.declared.event.Event.{Event}
use Rattle.rx_model.specs.declared.event.Event.TheVariants as events
use Rattle.rx_model.specs.declared.event.Noted.{Noted}
use Rattle.rx_model.specs.declared.names.Host.{Host}
use Rattle.rx_rules.specs.Classes.{null}
use Rattle.rx_rules.specs.Rules.{Legal}
use Rattle.rx_rules.specs.Setup.{Server, Client, FitsSetup, unprompted}
use Rattle.rx_rules.proofs.Replay.{unhex}
use Rattle.rx_law.specs.Promises.{EndsOk}
use Rattle.rx_law.specs.Worlds.{Gave}
use Rattle.rx_law.proofs.Example.{are_bytes, default_fits, host, name, null_fits}
use Rattle.rx_peer.specs.declared.role.Role.{Role}
use Rattle.rx_peer.specs.declared.role.Role.TheVariants as roles
use Rattle.rx_peer.specs.PeerWorlds.{AreOfHalves, ForgotNoneOrTimely, GaveAs, IsFor, IsMade, IsOfHalf, IsPeer}
use Rattle.rx_peer.specs.PeerWorlds.{PeerConnection, PeerNode}
use Rattle.rx_peer.specs.PeerWorlds.{PeerWorld, ends_of, half, peer_at, setup_at}
use Rattle.rx_peer.specs.Roles.{node_of}
use Rattle.rx_peer.proofs.Kept.{peer_law}

abbrev peer : Host → PeerNode
peer at = record {
  host = at;
  caller = unprompted (Client at 1) (record { conns = 1024; calls = 64; slots = 2048; window = 32 }) null;
  served = unprompted (Server 1 0) (record { conns = 1024; calls = 64; slots = 2048; window = 32 }) null;
}

abbrev peers : List PeerNode
peers = peer (host 167772161 7000) ∷ peer (host 167772162 7001) ∷ []

-- a request, its reply, its acknowledgement, and that of the whole reply: the bytes are the same in both directions
abbrev request : List ℕ
request = unhex (codes "00000001000000040000000100000001000000010107000000000001")

abbrev reply : List ℕ
reply = unhex (codes "00000001000000040000000100000001000000010106000000000001")

abbrev heard : List ℕ
heard =
    unhex (codes
    "00000001000000040000000100000000000000020200000000000001000000000000000200000001000000010100000000000005a4000005a40000002000000001")

abbrev all_read : List ℕ
all_read = unhex (codes "00000001000000040000000100000000000000020501000000000001")

abbrev happened : List Noted
happened =
    record { node = 4; event = events.Ended (name 167772162 7001 1 4 0 1) (askeds.Ended ends.Ok) }
    ∷ record { node = 3; event = events.Taken (host 167772162 7001) all_read tooks.Heard }
    ∷ record { node = 4; event = events.Polled (Some (host 167772161 7000, all_read)) }
    ∷ record { node = 4; event = events.Taken (host 167772161 7000) heard tooks.Over }
    ∷ record { node = 4; event = events.HasRead (name 167772162 7001 1 4 0 1) 16 (readers.Client answers.End) [] }
    ∷ record { node = 4; event = events.Taken (host 167772161 7000) reply tooks.Kept }
    ∷ record { node = 3; event = events.Polled (Some (host 167772162 7001, heard)) }
    ∷ record { node = 3; event = events.Polled (Some (host 167772162 7001, reply)) }
    ∷ record { node = 3; event = events.Finished (name 167772162 7001 1 4 0 1) (pos 0) (Ok tt) }
    ∷ record { node = 2; event = events.Ended (name 167772161 7000 1 4 0 1) (askeds.Ended ends.Ok) }
    ∷ record { node = 5; event = events.Taken (host 167772161 7000) all_read tooks.Heard }
    ∷ record { node = 2; event = events.Polled (Some (host 167772162 7001, all_read)) }
    ∷ record { node = 2; event = events.Taken (host 167772162 7001) heard tooks.Over }
    ∷ record { node = 2; event = events.HasRead (name 167772161 7000 1 4 0 1) 16 (readers.Client answers.End) [] }
    ∷ record { node = 2; event = events.Taken (host 167772162 7001) reply tooks.Kept }
    ∷ record { node = 5; event = events.Polled (Some (host 167772161 7000, heard)) }
    ∷ record { node = 5; event = events.Polled (Some (host 167772161 7000, reply)) }
    ∷ record { node = 5; event = events.Finished (name 167772161 7000 1 4 0 1) (pos 0) (Ok tt) }
    ∷ record { node = 5; event = events.HasRead (name 167772161 7000 1 4 0 1) 16 (readers.Server reads.End) [] }
    ∷ record { node = 5; event = events.Accepted (Some (name 167772161 7000 1 4 0 1)) }
    ∷ record { node = 5; event = events.Taken (host 167772161 7000) request tooks.Kept }
    ∷ record { node = 2; event = events.Polled (Some (host 167772162 7001, request)) }
    ∷ record { node = 2; event = events.Shut (name 167772161 7000 1 4 0 1) (Ok tt) }
    ∷ record { node = 2; event = events.Called 4 (Ok (name 167772161 7000 1 4 0 1)) }
    ∷ record { node = 2; event = events.Linked (host 167772162 7001) 1 1 (Ok 4) }
    ∷ record { node = 3; event = events.HasRead (name 167772162 7001 1 4 0 1) 16 (readers.Server reads.End) [] }
    ∷ record { node = 3; event = events.Accepted (Some (name 167772162 7001 1 4 0 1)) }
    ∷ record { node = 3; event = events.Taken (host 167772162 7001) request tooks.Kept }
    ∷ record { node = 4; event = events.Polled (Some (host 167772161 7000, request)) }
    ∷ record { node = 4; event = events.Shut (name 167772162 7001 1 4 0 1) (Ok tt) }
    ∷ record { node = 4; event = events.Called 4 (Ok (name 167772162 7001 1 4 0 1)) }
    ∷ record { node = 4; event = events.Linked (host 167772161 7000) 1 1 (Ok 4) }
    ∷ []

pub a_peer_world : PeerWorld peers happened
a_peer_world = record { peers_are = peers-are; apart = apart; legal = legal; carried = carried }
  where
    fits : (at : Host) (r : Role) → FitsSetup (setup_at r (peer at))
    fits at roles.Caller = record { kind = omega arith; limits = default_fits; class = null_fits }
    fits at roles.Served = record { kind = (omega arith, omega arith); limits = default_fits; class = null_fits }

    peers-are : (i : ℕ) → IfSome (peer_at peers i) IsPeer
    peers-are zero = tt
    peers-are (suc zero) = record { caller = refl; served = tt; fits = fits (host 167772161 7000) }
    peers-are (suc (suc zero)) = record { caller = refl; served = tt; fits = fits (host 167772162 7001) }
    peers-are (suc (suc (suc i))) = tt

    apart : (i j : ℕ)
        → IfSome (peer_at peers i) (λ p. IfSome (peer_at peers j) (λ q. p.host ≡ q.host → i ≡ j))
    apart zero j = tt
    apart (suc zero) zero = tt
    apart (suc zero) (suc zero) = λ same. refl
    apart (suc zero) (suc (suc zero)) = λ same. (let port : ◌≡◌ {A = ℕ} 7000 7001 = ap (λ (h : Host). h.port) same in
        absurd (omega arith))
    apart (suc zero) (suc (suc (suc j))) = tt
    apart (suc (suc zero)) zero = tt
    apart (suc (suc zero)) (suc zero) = λ same. (let port : ◌≡◌ {A = ℕ} 7001 7000 = ap (λ (h : Host). h.port) same in
        absurd (omega arith))
    apart (suc (suc zero)) (suc (suc zero)) = λ same. refl
    apart (suc (suc zero)) (suc (suc (suc j))) = tt
    apart (suc (suc (suc i))) j = tt

    legal : (i : ℕ) (r : Role)
        → IfSome (peer_at peers i) (λ p. Legal (setup_at r p) (half r i happened))
    legal zero r = tt
    legal (suc zero) roles.Caller = (
      refl,
      (
        refl,
        (
          (are_bytes heard refl, refl),
          (
            (omega arith, refl),
            (
              (are_bytes reply refl, refl),
              (
                refl,
                (refl, (refl, ((omega arith, omega arith, omega arith, refl), tt))),
              ),
            ),
          ),
        ),
      ),
    )
    legal (suc zero) roles.Served = (
      (are_bytes all_read refl, refl),
      (
        refl,
        (
          refl,
          (
            (omega arith, refl),
            (
              (omega arith, refl),
              (
                refl,
                ((are_bytes request refl, refl), tt),
              ),
            ),
          ),
        ),
      ),
    )
    legal (suc (suc zero)) roles.Caller = (
      refl,
      (
        refl,
        (
          (are_bytes heard refl, refl),
          (
            (omega arith, refl),
            (
              (are_bytes reply refl, refl),
              (
                refl,
                (refl, (refl, ((omega arith, omega arith, omega arith, refl), tt))),
              ),
            ),
          ),
        ),
      ),
    )
    legal (suc (suc zero)) roles.Served = (
      (are_bytes all_read refl, refl),
      (
        refl,
        (
          refl,
          (
            (omega arith, refl),
            (
              (omega arith, refl),
              (
                refl,
                ((are_bytes request refl, refl), tt),
              ),
            ),
          ),
        ),
      ),
    )
    legal (suc (suc (suc i))) r = tt

    at : {e : Event} {h : List Noted} (i : ℕ) (r : Role) → IsSomeAnd (peer_at peers i) (λ p. IsFor peers p.host r h e)
        → IsOfHalf peers (record { node = node_of r i; event = e }) h
    at i r takes = record { number = i; role = r; node = refl; takes = takes }

    from : {host to : Host} {bytes : List ℕ} {h : List Noted} (i : ℕ) (r : Role)
        → IsSomeAnd (peer_at peers i) (λ p. p.host ≡ host) → Gave to bytes (half r i h)
        → GaveAs peers host to bytes h
    from i r sender gave = record { number = i; role = r; sender = sender; gave = gave }

    carried : AreOfHalves peers happened
    carried = (
      at 2 roles.Caller tt,
      (
        at 1 roles.Served (refl, from 2 roles.Caller refl (inl (refl, refl))),
        (
          at 2 roles.Caller tt,
          (
            at 2 roles.Caller (refl, from 1 roles.Served refl (inl (refl, refl))),
            (
              at 2 roles.Caller tt,
              (
                at 2 roles.Caller (refl, from 1 roles.Served refl (inr (inl (refl, refl)))),
                (
                  at 1 roles.Served tt,
                  (
                    at 1 roles.Served tt,
                    (
                      at 1 roles.Served tt,
                      (
                        at 1 roles.Caller tt,
                        (
                          at 2 roles.Served (refl, from 1 roles.Caller refl (inl (refl, refl))),
                          (
                            at 1 roles.Caller tt,
                            (
                              at 1 roles.Caller (refl, from 2 roles.Served refl (inl (refl, refl))),
                              (
                                at 1 roles.Caller tt,
                                (
                                  at 1 roles.Caller (refl, from 2 roles.Served refl (inr (inl (refl, refl)))),
                                  (
                                    at 2 roles.Served tt,
                                    (
                                      at 2 roles.Served tt,
                                      (
                                        at 2 roles.Served tt,
                                        (
                                          at 2 roles.Served tt,
                                          (
                                            at 2 roles.Served tt,
                                            (
                                              at 2 roles.Served (refl, from 1 roles.Caller refl (inl (refl, refl))),
                                              (
                                                at 1 roles.Caller tt,
                                                (
                                                  at 1 roles.Caller tt,
                                                  (
                                                    at 1 roles.Caller tt,
                                                    (
                                                      at 1 roles.Caller tt,
                                                      (
                                                        at 1 roles.Served tt,
                                                        (
                                                          at 1 roles.Served tt,
                                                          (
                                                            at 1 roles.Served (
                                                              refl,
                                                              from 2 roles.Caller refl
                                                                  (inl (refl, refl)),
                                                            ),
                                                            (
                                                              at 2 roles.Caller tt,
                                                              (
                                                                at 2 roles.Caller tt,
                                                                (
                                                                  at 2 roles.Caller tt,
                                                                  (at 2 roles.Caller tt, tt),
                                                                ),
                                                              ),
                                                            ),
                                                          ),
                                                        ),
                                                      ),
                                                    ),
                                                  ),
                                                ),
                                              ),
                                            ),
                                          ),
                                        ),
                                      ),
                                    ),
                                  ),
                                ),
                              ),
                            ),
                          ),
                        ),
                      ),
                    ),
                  ),
                ),
              ),
            ),
          ),
        ),
      ),
    )

-- no served half forgot a record
kept : (j : ℕ) → ForgotNoneOrTimely peers happened j
kept zero = tt
kept (suc zero) = inl refl
kept (suc (suc zero)) = inl refl
kept (suc (suc (suc j))) = tt

-- the connection of each peer to the other
to-first : PeerConnection peers
to-first = record {
  connection = record { host = host 167772162 7001; epoch = 1; cid = 4 };
  caller = 2;
  from = peer (host 167772162 7001);
  from_is = refl;
  served = 1;
  to = peer (host 167772161 7000);
  to_is = refl;
}

to-second : PeerConnection peers
to-second = record {
  connection = record { host = host 167772161 7000; epoch = 1; cid = 4 };
  caller = 1;
  from = peer (host 167772161 7000);
  from_is = refl;
  served = 2;
  to = peer (host 167772162 7001);
  to_is = refl;
}

made-first : IsMade peers to-first happened
unfolding to-first
made-first = refl {a = host 167772161 7000}

made-second : IsMade peers to-second happened
unfolding to-second
made-second = refl {a = host 167772162 7001}

-- both calls ended with Ok, and so each was entered once and read whole
its-end : EndsOk (ends_of peers to-first) (name 167772162 7001 1 4 0 1) happened
unfolding to-first
its-end =
    (peer_law peers happened a_peer_world kept to-first made-first
    (name 167772162 7001 1 4 0 1) refl [] happened refl).ends ends.Ok refl

end-back : EndsOk (ends_of peers to-second) (name 167772161 7000 1 4 0 1) happened
unfolding to-second
end-back =
    (peer_law peers happened a_peer_world kept to-second made-second
    (name 167772161 7000 1 4 0 1) refl [] happened refl).ends ends.Ok refl
