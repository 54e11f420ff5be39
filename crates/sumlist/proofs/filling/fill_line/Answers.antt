use Rattle.sumlist.proofs.Common.{◌≡◌, ◌+◌, ◌*◌, ◌++◌, ◌∷◌, ◌∙◌, [], List, arith, codes, digest_len, encode_lower}
use Rattle.sumlist.proofs.Common.{escaped, label_of, length, length-append, length-encode_with, lower_digits, ℕ}
use Rattle.sumlist.proofs.filling.fill_line.Goals as goal

plain_sum : (head front name digits tag : List ℕ) (n : ℕ) → head ≡ front → digits ≡ encode_lower tag → length tag ≡ n
    → length front + 2 * n + 2 + length name + 1
    ≡ length ((head ++ (digits ++ (codes "  " ++ []))) ++ (name ++ ((10 ∷ []) ++ [])))
plain_sum head front name digits tag n same is sized =
    let len = length-encode_with lower_digits tag in rw (same, is) (grind (arith, length-append {A = ℕ}, len))

tagged_sum : (head front word bits label name digits tag : List ℕ) (n : ℕ) → head ≡ front → word ++ bits ≡ label
    → digits ≡ encode_lower tag → length tag ≡ n
    → length front + length label + 2 + length name + 4 + 2 * n + 1
    ≡ length ((head ++ (word ++ (bits ++ (codes " (" ++ []))))
    ++ (name ++ (codes ") = " ++ (digits ++ ((10 ∷ []) ++ [])))))
tagged_sum head front word bits label name digits tag n same labelled is sized =
    let len = length-encode_with lower_digits tag in
    rw (same, is, ← labelled) (grind (arith, length-append {A = ℕ}, len))

pub fill_between-requires : goal.fill_between-requires
fill_between-requires c =
    (rw c.if-is_tagged.true at c.requires.room)
    ∙ tagged_sum c.as_bytes-lead.result.now _ c.as_bytes.result.now c.as_bytes-then-is_tagged.result.now
    (label_of c.args.alg) (escaped c.args.name.now) c.tag_digits-digits.result.now c.args.tag.now
    (digest_len c.args.alg) (c.as_bytes-lead.ensures.value ∙ c.lead.ensures)
    (rw (c.as_bytes.ensures.value, c.as_bytes-then-is_tagged.ensures.value) c.label.ensures.value)
    c.tag_digits-digits.ensures c.requires.sized.1

pub fill_between-requires-else-is_tagged : goal.fill_between-requires-else-is_tagged
fill_between-requires-else-is_tagged c =
    (rw c.if-is_tagged.false at c.requires.room)
    ∙ plain_sum c.as_bytes-lead.result.now _ (escaped c.args.name.now) c.tag_digits-digits.result.now
    c.args.tag.now (digest_len c.args.alg) (c.as_bytes-lead.ensures.value ∙ c.lead.ensures)
    c.tag_digits-digits.ensures c.requires.sized.1
