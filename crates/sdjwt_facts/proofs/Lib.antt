pub mod HolderKeys
