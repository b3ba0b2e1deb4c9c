use Rattle.std.proofs.Common.{◌≡◌, ◌+◌, ◌<◌, drop, length, ap, sym, ◌∙◌, Some, None, ◌++◌, [], ◌∷◌, arith, append-nil}
use Rattle.tera_syntax_tokens.specs.Token.{token_of, tokens_of}
use Rattle.tera_syntax_tokens.specs.Inside.{inside, closing_in, open_after, prefixed}
use Rattle.tera_syntax_tokens.proofs.Sizes.{token_size}
use Rattle.tera_syntax_tokens.proofs.Insides.{ends_here, passes_blank, no_token, takes_token, prefixed-append, ending_boundary, none_from, tokens_of-push, nothing, closing_found}
use Rattle.std.proofs.lemmas.List.{length-drop, drop_all}
use Rattle.tera_syntax_tokens.proofs.tag_tokens.cut_inside.Goals as goal

pub split_at-requires : goal.split_at-requires
split_at-requires c =
    let h : closing_in c.loop-i.opened c.args.end.now (drop c.loop-i.i c.args.text.now) ≡ Some c.in-Some.ending = cc in
    ending_boundary c.args.end.now c.args.text.now c.loop-i.i c.in-Some.ending c.utf8.text c.utf8.end c.requires.some (closing_found c.loop-i.opened c.args.end.now (drop c.loop-i.i c.args.text.now) c.in-Some.ending h)

pub returns-in-Some-clause-value : goal.returns-in-Some-clause-value
returns-in-Some-clause-value c =
    let l : c.loop-i.i < length c.args.text.now = omega (arith, ap length c.as_bytes-bytes.ensures.value) in
    let h : closing_in c.loop-i.opened c.args.end.now (drop c.loop-i.i c.args.text.now) ≡ Some c.in-Some.ending = cc in
    let e = ends_here c.args.end.now c.loop-i.opened c.args.at c.loop-i.i c.args.text.now c.in-Some.ending l h in
    c.loop-i.invariant.so_far ∙ ap (prefixed (tokens_of c.loop-i.tokens.items)) e ∙ ap (λ ts. Some (record { tokens = ts; next = c.args.at + c.loop-i.i + c.in-Some.ending.size; trims = c.in-Some.ending.trims })) (append-nil (tokens_of c.loop-i.tokens.items))

pub loop-i-preserved-then-is_blank : goal.loop-i-preserved-then-is_blank
loop-i-preserved-then-is_blank c =
    let l : c.loop-i.i < length c.args.text.now = omega (arith, ap length c.as_bytes-bytes.ensures.value) in
    let n : c.tag_ending_in.result ≡ None = none_from c.tag_ending_in.result c.in_default.not-Some in
    let e = passes_blank c.args.end.now c.loop-i.opened c.args.at c.loop-i.i c.args.text.now l (cc) (cc) in
    record { within = omega arith; few = omega (arith, c.loop-i.invariant.few); so_far = c.loop-i.invariant.so_far ∙ ap (prefixed (tokens_of c.loop-i.tokens.items)) e }

pub returns-in_default-next_token-clause-value : goal.returns-in_default-next_token-clause-value
returns-in_default-next_token-clause-value c =
    let l : c.loop-i.i < length c.args.text.now = omega (arith, ap length c.as_bytes-bytes.ensures.value) in
    let n : c.tag_ending_in.result ≡ None = none_from c.tag_ending_in.result c.in_default.not-Some in
    let e = no_token c.args.end.now c.loop-i.opened c.args.at c.loop-i.i c.args.text.now l (cc) (cc) (sym c.in_default-next_token.ensures) in
    c.loop-i.invariant.so_far ∙ ap (prefixed (tokens_of c.loop-i.tokens.items)) e

pub loop-i-smaller : goal.loop-i-smaller
loop-i-smaller c =
    let l : c.loop-i.i < length c.args.text.now = omega (arith, ap length c.as_bytes-bytes.ensures.value) in
    let t = token_size (c.args.at + c.loop-i.i) (drop c.loop-i.i c.args.text.now) (token_of c.in-Some-next_token.token) (sym c.in-Some-next_token.ensures) in
    omega (arith, t.0, t.1)

pub loop-i-preserved : goal.loop-i-preserved
loop-i-preserved c =
    let l : c.loop-i.i < length c.args.text.now = omega (arith, ap length c.as_bytes-bytes.ensures.value) in
    let n : c.tag_ending_in.result ≡ None = none_from c.tag_ending_in.result c.in_default.not-Some in
    let e = takes_token c.args.end.now c.loop-i.opened c.args.at c.loop-i.i c.args.text.now (token_of c.in-Some-next_token.token) l (cc) (cc) (sym c.in-Some-next_token.ensures) in
    let t = token_size (c.args.at + c.loop-i.i) (drop c.loop-i.i c.args.text.now) (token_of c.in-Some-next_token.token) (sym c.in-Some-next_token.ensures) in
    let p : tokens_of c.push.new.self.items ≡ tokens_of c.loop-i.tokens.items ++ token_of c.in-Some-next_token.token ∷ [] =
    ap tokens_of c.in_ok-push.ensures.items ∙ tokens_of-push c.loop-i.tokens.items c.in-Some-next_token.token in
    record {
      within = omega (arith, t.1, length-drop c.loop-i.i c.args.text.now);
      few = omega (arith, t.0, c.loop-i.invariant.few, c.open_after-opened.ensures.small);
      so_far = c.loop-i.invariant.so_far ∙ ap (prefixed (tokens_of c.loop-i.tokens.items)) e ∙ prefixed-append (tokens_of c.loop-i.tokens.items) (token_of c.in-Some-next_token.token ∷ []) _
          ∙ ap (λ ts. prefixed ts (inside c.args.end.now (open_after c.loop-i.opened c.in-Some-next_token.token.kind) 0 (c.args.at + (c.loop-i.i + length c.in-Some-next_token.token.text.now)) (drop (c.loop-i.i + length c.in-Some-next_token.token.text.now) c.args.text.now))) (sym p)
          ∙ ap (λ n. prefixed (tokens_of c.push.new.self.items) (inside c.args.end.now n 0 (c.args.at + (c.loop-i.i + length c.in-Some-next_token.token.text.now)) (drop (c.loop-i.i + length c.in-Some-next_token.token.text.now) c.args.text.now))) (sym c.open_after-opened.ensures.value);
    }

pub returns-clause-value : goal.returns-clause-value
returns-clause-value c =
    let s = ap length c.as_bytes-bytes.ensures.value in
    let d = drop_all c.loop-i.i c.args.text.now (omega (arith, s)) in
    let e : inside c.args.end.now c.loop-i.opened 0 (c.args.at + c.loop-i.i) (drop c.loop-i.i c.args.text.now) ≡ None = rw d (nothing c.args.end.now c.loop-i.opened (c.args.at + c.loop-i.i)) in
    c.loop-i.invariant.so_far ∙ ap (prefixed (tokens_of c.loop-i.tokens.items)) e
