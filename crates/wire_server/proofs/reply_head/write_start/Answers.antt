use Rattle.std.proofs.Common.{◌≡◌, ◌++◌, ℕ, List, append_assoc, subst, sym}
use Rattle.std.specs.Prelude.{OnOk, string_bytes, codes}
use Rattle.http.specs.StatusCode.{status_text}
use Rattle.wire_server.specs.ReplyHead.{leading_lines}
use Rattle.wire_server.proofs.reply_head.write_start.Goals as goal

regroup : (a s b n c k d : List ℕ) → a ++ s ++ b ++ (n ++ c ++ k ++ d) ≡ a ++ (s ++ (b ++ (n ++ (c ++ (k ++ d)))))
regroup a s b n c k d = simp append_assoc

-- src/reply_head.rt:22:1
pub returns : goal.returns
unfolding leading_lines
returns c =
    subst (λ t. OnOk c.write.result (string_bytes c.write.new.self ≡ string_bytes c.args.out.now ++ t))
    (sym (regroup (codes "HTTP/1.1 ") (status_text c.args.status) (codes "\r\n") (codes "content-type") (codes ": ")
    c.args.kind.now (codes "\r\n")))
    c.write.ensures.bytes
