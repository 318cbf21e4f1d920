-- The statements that a store runs, as they are written in the code.
use Rattle.std.specs.Prelude.{ℕ, List, codes}

abbrev pub create_version : List ℕ
create_version = codes "CREATE TABLE version (n INTEGER NOT NULL)"

abbrev pub create_config : List ℕ
create_config = codes "CREATE TABLE config (tenant TEXT NOT NULL PRIMARY KEY, body BLOB, moment INTEGER NOT NULL, instance INTEGER NOT NULL, incarnation INTEGER NOT NULL, count INTEGER NOT NULL)"

abbrev pub create_silence : List ℕ
create_silence = codes "CREATE TABLE silence (tenant TEXT NOT NULL, id TEXT NOT NULL, starts INTEGER NOT NULL, ends INTEGER NOT NULL, kept INTEGER NOT NULL, author BLOB NOT NULL, comment BLOB NOT NULL, matchers BLOB NOT NULL, moment INTEGER NOT NULL, instance INTEGER NOT NULL, incarnation INTEGER NOT NULL, count INTEGER NOT NULL, PRIMARY KEY (tenant, id))"

abbrev pub delete_config : List ℕ
delete_config = codes "DELETE FROM config WHERE tenant = ?1"

abbrev pub delete_silence : List ℕ
delete_silence = codes "DELETE FROM silence WHERE tenant = ?1 AND id = ?2"

abbrev pub delete_silences : List ℕ
delete_silences = codes "DELETE FROM silence WHERE tenant = ?1"

abbrev pub insert_config : List ℕ
insert_config = codes "INSERT INTO config VALUES (?1, ?2, ?3, ?4, ?5, ?6)"

abbrev pub insert_silence : List ℕ
insert_silence = codes "INSERT INTO silence VALUES (?1, ?2, ?3, ?4, ?5, ?6, ?7, ?8, ?9, ?10, ?11, ?12)"

abbrev pub select_config_stamp : List ℕ
select_config_stamp = codes "SELECT moment, instance, incarnation, count FROM config WHERE tenant = ?1"

abbrev pub select_silence_stamp : List ℕ
select_silence_stamp = codes "SELECT moment, instance, incarnation, count FROM silence WHERE tenant = ?1 AND id = ?2"

abbrev pub select_config : List ℕ
select_config = codes "SELECT rowid, tenant, body, moment, instance, incarnation, count FROM config WHERE tenant = ?1"

abbrev pub select_silences : List ℕ
select_silences = codes "SELECT rowid, tenant, id, starts, ends, kept, author, comment, matchers, moment, instance, incarnation, count FROM silence WHERE tenant = ?1 ORDER BY id"

abbrev pub insert_version : List ℕ
insert_version = codes "INSERT INTO version VALUES (?1)"

abbrev pub select_version : List ℕ
select_version = codes "SELECT rowid, n FROM version"

abbrev pub select_all_configs : List ℕ
select_all_configs = codes "SELECT rowid, tenant, body, moment, instance, incarnation, count FROM config ORDER BY rowid"

abbrev pub select_all_silences : List ℕ
select_all_silences = codes "SELECT rowid, tenant, id, starts, ends, kept, author, comment, matchers, moment, instance, incarnation, count FROM silence ORDER BY rowid"

abbrev pub select_config_tenants : List ℕ
select_config_tenants = codes "SELECT tenant FROM config"

abbrev pub select_silence_tenants : List ℕ
select_silence_tenants = codes "SELECT DISTINCT tenant FROM silence"
