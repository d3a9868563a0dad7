use Rattle.rx_call_tests.proofs.tests.calls.a_key_is_given_again_when_its_call_ended.Given as goal

abbrev pub ghosts-two_calls : goal.ghosts-two_calls
ghosts-two_calls g a = record { name = a.blank.name; parts = a.blank.parts }
