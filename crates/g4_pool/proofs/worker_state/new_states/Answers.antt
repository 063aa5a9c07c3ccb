use Rattle.std.proofs.Common.{◌≡◌, ◌+◌, ◌++◌, ◌∷◌, [], List, ℕ, suc, ap, arith, length, length-append, map, sym, subst, ◌∙◌}
use Rattle.std.proofs.lemmas.List.{map-append}
use Rattle.g4_decide.specs.Asked.{Told}
use Rattle.g4_pool.specs.Files.{copy_of, first_copies}
use Rattle.g4_pool.proofs.worker_state.new_states.Goals as goal

pub copy_pass-requires : goal.copy_pass-requires
copy_pass-requires g c = (c.loop.counter + 1, c.loop.invariant.1)

pub loop-preserved : goal.loop-preserved
loop-preserved g c =
    let n = c.loop.counter in
    let pushed = c.in_ok-push.ensures.items in
    let more : suc n ≡ n + 1 = omega arith in
    let longer : length c.push.new.self.items ≡ length c.loop.states.items + 1 =
    ap length pushed ∙ length-append c.loop.states.items _ in
    let copy : c.copy_pass.result ≡ copy_of (suc n) =
    c.copy_pass.ensures.copy (n + 1) c.loop.invariant.1 ∙ ap copy_of (sym more) in (
      longer ∙ ap (λ (k : ℕ). k + 1) c.loop.invariant.0,
      c.copy_pass.ensures.leads (n + 1) c.loop.invariant.1,
      subst (λ (k : ℕ). map (λ s. s.pass) c.push.new.self.items ≡ first_copies k) more
          (ap (λ ss. map (λ s. s.pass) ss) pushed ∙ (map-append (λ s. s.pass) c.loop.states.items (_ ∷ [])
          ∙ (ap (λ (ts : List Told). ts ++ c.copy_pass.result ∷ []) c.loop.invariant.2
          ∙ ap (λ (t : Told). first_copies n ++ t ∷ []) copy))),
    )
