use Rattle.std.proofs.Common.{◌≡◌, ℕ, suc, ◌+◌, List, ◌∷◌, length, true, ap, arith, sym, subst, ◌∙◌}
use Rattle.std.specs.Prelude.{All, IfOk}
use Rattle.std.proofs.lemmas.Result.{IfOk-weaker}
use Rattle.gl_bits.specs.Words.{Word, bits_of, choose_of, eq_of, product_of}
use Rattle.gl_net.specs.Net.{Run}
use Rattle.gl_net.proofs.Determined.{keeps_then}
use Rattle.gl_rows.proofs.MadeLemmas.{carries_as}
use Rattle.gl_totals.specs.Weighing.{HasWidth, IsWeighed, among, is_told}
use Rattle.gl_totals.proofs.WeighLemmas.{among_empty, among_more, among_told, product_none}
use Rattle.gl_totals.proofs.weighted.+put_multiples.Goals as goal

pub returns-in_default : goal.returns-in_default
returns-in_default t c =
    let value = c.args.value in
    let w = value.width in
    let none = c.in_ok-none.ensures in
    record {
      keeps = none.keeps;
      cost = record { nodes = omega (arith, none.size); registers = omega (arith, none.register_bits); memories = omega (arith, none.memory_bits) };
      bus = none.bus;
      same_width = none.width ∙ c.small_word.ensures.width;
      carries = λ run r u.
          none.value run r u ∙ c.small_word.ensures.bits ∙ product_none w (run.at u value.node)
          ∙ ap (product_of w (run.at u value.node)) (among_empty c.args.weights.now (run.at u c.args.picked.node) (sym c.in_default.ensures.cases));
    }

pub put_multiples-requires : goal.put_multiples-requires
put_multiples-requires t c =
    let weights = c.in-Some.ensures.cases.0 in
    let many = ap length weights in
    let all = subst (All (HasWidth c.args.value.width)) weights c.requires.weights in
    (omega (arith, many), (c.requires.picked, (c.requires.value, (c.requires.picked_width, ((λ k d lt. all (suc k) d (omega (arith, lt))), omega (arith, many, c.requires.nodes))))))

pub returns-then-is_told : goal.returns-then-is_told
returns-then-is_told t c =
    let old = c.args.net.now in
    let new = c.put_multiples.new.net in
    let picked = c.args.picked in
    let value = c.args.value in
    let w = value.width in
    let n = c.in-Some.first.now.bits in
    let ns = bits_of c.in-Some.others.now in
    let told : is_told n ns ≡ true = sym (c.is_told.ensures ∙ ap (λ (k : ℕ). is_told k ns) c.bits.ensures.value) ∙ c.if-is_told.true in
    let less : Run → ℕ → ℕ = λ run u. product_of w (run.at u value.node) (among ns (run.at u picked.node)) in
    let more : Run → ℕ → ℕ = λ run u. product_of w (run.at u value.node) (among (n ∷ ns) (run.at u picked.node)) in
    subst (λ (ws : List Word). IfOk c.put_multiples.result (IsWeighed old new c.args.nodes (bits_of ws) picked value)) (sym c.in-Some.ensures.cases.0)
    (IfOk-weaker c.put_multiples.result (IsWeighed old new c.args.nodes ns picked value) (IsWeighed old new c.args.nodes (n ∷ ns) picked value)
    (λ b. carries_as old new (c.args.nodes + 1) w less more b
    (λ run r u. ap (product_of w (run.at u value.node)) (among_told n ns (run.at u picked.node) told)))
    c.put_multiples.ensures)

pub put_multiples-requires-2 : goal.put_multiples-requires-2
put_multiples-requires-2 t c =
    let weights = c.in-Some.ensures.cases.0 in
    let many = ap length weights in
    let all = subst (All (HasWidth c.args.value.width)) weights c.requires.weights in
    let own = c.nodes_for-own.ensures in
    (omega (arith, many), (c.requires.picked, (c.requires.value, (c.requires.picked_width, ((λ k d lt. all (suc k) d (omega (arith, lt))), omega (arith, many, c.requires.nodes, own.few, own.within))))))

pub returns : goal.returns
returns t c =
    let old = c.args.net.now in
    let mid = c.put_multiples-2.new.net in
    let new = c.put_choice.new.net in
    let picked = c.args.picked in
    let value = c.args.value in
    let w = value.width in
    let n = c.in-Some.first.now.bits in
    let ns = bits_of c.in-Some.others.now in
    let own = c.nodes_for-own.ensures in
    let behind = c.in_ok-behind.ensures in
    let out = c.in_ok-out.ensures in
    subst (λ (ws : List Word). IsWeighed old new c.args.nodes (bits_of ws) picked value c.in_ok-out.out) (sym c.in-Some.ensures.cases.0)
    (record {
      keeps = keeps_then old mid new behind.keeps out.keeps;
      cost = record {
        nodes = omega (arith, behind.cost.nodes, out.cost.nodes, own.few, own.within);
        registers = omega (arith, behind.cost.registers, out.cost.registers);
        memories = omega (arith, behind.cost.memories, out.cost.memories);
      };
      bus = out.bus;
      same_width = out.same_width;
      carries = λ run r u.
          out.carries run r u
          ∙ ap (choose_of (eq_of (run.at u picked.node) n) (product_of w (run.at u value.node) n)) (behind.carries run (out.keeps.runs run r) u)
          ∙ among_more w (run.at u value.node) n (run.at u picked.node) ns;
    })
