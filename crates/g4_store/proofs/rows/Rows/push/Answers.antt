use Rattle.std.proofs.Common.{◌≡◌, ℕ, ◌+◌, ◌%◌, ◌<◌, List, [], ◌∷◌, ◌++◌, length, set, get_or, sym, ap, ◌∙◌, subst, arith, length-append}
use Rattle.g4_store.specs.Buckets.{AreLinked}
use Rattle.g4_store.proofs.Lists.{get_any}
use Rattle.g4_store.proofs.Bucketing.{links_more}
use Rattle.g4_store.proofs.rows.Rows.push.Goals as goal

pub invariant_of-self : goal.invariant_of-self
invariant_of-self g c =
    let i = c.self.invariant in
    let older = c.push_in_room.ensures in
    let rows = c.push_in_room-2.ensures in
    let contents = c.self.inside.contents.items in
    let newest = c.self.inside.newest.items in
    let bucket = c.bucket_of-bucket.result in
    let lt : bucket < length newest = subst (λ l. bucket < length l) c.as_slice.ensures.value c.bucket_of-bucket.ensures.1 in
    let count : c.len-row.result ≡ length contents = c.len-row.ensures.0 ∙ sym (ap (λ q. length q.0) c.self.view_is) in
    let size : length (contents ++ c.args.content ∷ []) ≡ length contents + 1 = length-append contents (c.args.content ∷ []) in
    let room : length contents < c.self.inside.most = subst (λ q. length q.0 < q.1) (sym c.self.view_is) c.requires in (
      (
        subst (λ (q : List g.row.C.Denot × List ℕ). AreLinked g.C.Content.code q.0 (set newest bucket (c.len-row.result + 1)) q.1)
            (λ j. (
              sym rows.0 j,
              sym (older.0 ∙ ap (λ (n : ℕ). c.self.inside.older.items ++ n ∷ [])
                  (c.index.ensures ∙ get_any newest bucket c.index.result.now 0 (omega arith))) j,
            ))
            (subst (λ (n : ℕ). AreLinked g.C.Content.code (contents ++ c.args.content ∷ []) (set newest bucket (n + 1))
            (c.self.inside.older.items ++ get_or newest bucket 0 ∷ [])) (sym count)
            (links_more g.C.Content.code contents newest c.self.inside.older.items c.args.content bucket
            (c.bucket_of-bucket.ensures.0 ∙ (λ j. c.hash.ensures j % length (c.as_slice.ensures.value j))) (omega arith) i.0.0)),
        (let a = ap length rows.0 in omega arith),
      ),
      (i.1.0, (let a = i.1.1 in let b = rows.1 in omega arith), (let a = i.1.2 in let b = older.1 in omega arith)),
    )
